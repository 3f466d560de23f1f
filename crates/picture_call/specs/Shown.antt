-- What a call for a picture has read and written.
use Rattle.std.specs.Prelude.{◌≡◌, ◌≢◌, ◌⊎◌, ℕ, List, Option, Some, None}
use Rattle.outside_io.specs.Outside.{Rose, Appends}
use Rattle.lithe_call.specs.declared.status.Status.{Status}
use Rattle.lithe_call.specs.declared.status.Status.TheVariants.{Done, Illegal, Usage, Syntax, Refused, TooLong, ReadFault, WriteFault, NoMemory}
use Rattle.lithe_call.specs.Served.{Outside}
use Rattle.lithe_call.specs.Printing.{AppendsPrefix, Prints}
use Rattle.picture_call.specs.declared.runner.Runner.{Runner}
use Rattle.picture_call.specs.Causes.{GivesLong, HasNoText, HasRefused, IsReportedBy}
use Rattle.picture_call.specs.Pictures.{EndsAs, IsPictureFor}
use Rattle.picture_call.specs.Texts.{own_text}
use Rattle.picture_call.specs.Words.{parsed_run}

-- The sink took the picture.
pub record WritesPicture (words : List (List ℕ)) (left left' : Option (List ℕ)) (status : Status)
    (taken taken' : Option (List ℕ)) : Type 0 where
  pub text : List ℕ
  pub picture : IsPictureFor words left left' status text
  pub written : Appends taken text taken'

-- The sink took a prefix of the picture, with whatever status.
pub record WritesPart (words : List (List ℕ))
    (left left' taken taken' : Option (List ℕ)) : Type 0 where
  pub status : Status
  pub text : List ℕ
  pub picture : IsPictureFor words left left' status text
  pub written : AppendsPrefix taken text taken'

-- The text is the status's, for what the source gave.
abbrev pub IsPrintedFor : List (List ℕ) → Status → Option (List ℕ) → Option (List ℕ) → List ℕ → Type 0
IsPrintedFor words Syntax left left' text = IsReportedBy HasNoText words left left' text
IsPrintedFor words Refused left left' text = IsReportedBy HasRefused words left left' text
IsPrintedFor words status left left' text = text ≡ own_text status

-- The status's text was written to the sink, with its count of faults before and after.
pub record PrintsWhy (words : List (List ℕ)) (status : Status)
    (left left' taken : Option (List ℕ)) (faults : ℕ) (taken' : Option (List ℕ))
    (faults' : ℕ) : Type 0 where
  pub text : List ℕ
  pub right : IsPrintedFor words status left left' text
  pub prints : Prints taken faults text taken' faults'

-- The words were served, with this status: what the source, the sink and the sink for errors were before and are after.
pub record AreShown {A B E : Type 0} (see : Outside A B E) (words : List (List ℕ)) (status : Status) (source source' : A)
    (out out' : B) (err err' : E) : Type 0 where
  -- The picture is of the output that the source gave behind its program, and has its verdict.
  pub done : status ≡ Done
      → WritesPicture words (see.left source) (see.left source') Done (see.taken out) (see.taken out')
  -- The same of an output that the command can't write for the program.
  pub illegal : status ≡ Illegal
      → WritesPicture words (see.left source) (see.left source') Illegal (see.taken out) (see.taken out')
  -- What has a verdict ends with the status of that verdict, unless an allocation or the outside fails.
  pub complete : (runner : Runner) (harts : ℕ) → parsed_run words ≡ Some (runner, harts)
      → (bytes : List ℕ) → see.left source ≡ Some bytes
      → (ended : Status) → EndsAs runner harts bytes ended
      → (Rose (see.read_faults source) (see.read_faults source') → ⊥)
      → (Rose (see.write_faults out) (see.write_faults out') → ⊥)
      → (status ≡ ended) ⊎ (status ≡ NoMemory)
  -- When each other status comes. The texts of Syntax and Refused have their causes. Words that are no form are Usage,
  -- unless an allocation fails while they are read.
  pub usage : status ≡ Usage → parsed_run words ≡ None
  pub no_form : parsed_run words ≡ None → (status ≡ Usage) ⊎ (status ≡ NoMemory)
  pub too_long : status ≡ TooLong → GivesLong words (see.left source) (see.left source')
  pub read_fault : status ≡ ReadFault → Rose (see.read_faults source) (see.read_faults source')
  pub write_fault : status ≡ WriteFault → Rose (see.write_faults out) (see.write_faults out')
  pub lines : status ≢ Done → status ≢ Illegal
      → PrintsWhy words status (see.left source) (see.left source') (see.printed err) (see.print_faults err)
      (see.printed err') (see.print_faults err')
  -- What the source gave and what the sinks took otherwise.
  pub prefix : status ≡ WriteFault
      → WritesPart words (see.left source) (see.left source') (see.taken out) (see.taken out')
  pub source_stays : parsed_run words ≡ None → source' ≡ source
  pub out_stays : status ≢ Done → status ≢ Illegal → status ≢ WriteFault → out' ≡ out
  pub err_stays : (status ≡ Done) ⊎ (status ≡ Illegal) → err' ≡ err
