-- The bytes that a call has read and written. A source that shows its bytes had exactly these left. `make` reads none.
use Rattle.std.specs.Prelude.{◌≡◌, ◌≢◌, ◌⊎◌, ℕ, List, Option, Some, None}
use Rattle.outside_io.specs.Outside.{Rose, Appends}
use Rattle.lithe_call.specs.Printing.{AppendsPrefix, Prints}
use Rattle.lithe_call.specs.Inputs.{AreInput, ReadsAll, GivesTooMuch, FailsToRead}
use Rattle.lithe_call.specs.Output.{IsOutputOf, EndsWith}
use Rattle.command_words.specs.Form.{form_of}
use Rattle.lithe_call.specs.Faults.{IsNoText, IsRefused, IsLong}
use Rattle.lithe_call.specs.Status.{constant_text}
use Rattle.command_words.specs.declared.command.Command.{Command}
use Rattle.command_words.specs.declared.command.Command.TheVariants.{Make}
use Rattle.lithe_call.specs.declared.status.Status.{Status}
use Rattle.lithe_call.specs.declared.status.Status.TheVariants.{Done, Illegal, Usage, Syntax, Refused, TooLong, ReadFault, WriteFault, NoMemory}

-- The words' command read these bytes to the end of the source, and this text is its output for them with this status.
pub record IsOutputFor (words : List (List ℕ)) (left left' : Option (List ℕ)) (status : Status)
    (text : List ℕ) : Type 0 where
  pub command : Command
  pub form : form_of words ≡ Some command
  pub bytes : List ℕ
  pub given : ReadsAll command left bytes left'
  pub output : IsOutputOf command bytes status text

-- The sink took such a text.
pub record WritesOutput (words : List (List ℕ)) (left left' : Option (List ℕ)) (status : Status)
    (taken taken' : Option (List ℕ)) : Type 0 where
  pub text : List ℕ
  pub output : IsOutputFor words left left' status text
  pub written : Appends taken text taken'

-- The sink took a prefix of such a text, for any status.
pub record WritesPrefix (words : List (List ℕ))
    (left left' taken taken' : Option (List ℕ)) : Type 0 where
  pub status : Status
  pub text : List ℕ
  pub output : IsOutputFor words left left' status text
  pub written : AppendsPrefix taken text taken'

-- The input is too long for the words' command.
pub record IsTooLong (words : List (List ℕ)) (left left' : Option (List ℕ)) : Type 0 where
  pub command : Command
  pub form : form_of words ≡ Some command
  pub longer : GivesTooMuch command left left'
      ⊎ ((bytes : List ℕ) × ReadsAll command left bytes left' × IsLong command bytes)

-- The line reports why the input of the words' command isn't of the form that it reads, or why the program is refused.
pub record IsPrintedOf (IsSo : Command → List ℕ → List ℕ → Type 0) (words : List (List ℕ))
    (left left' : Option (List ℕ)) (line : List ℕ) : Type 0 where
  pub command : Command
  pub form : form_of words ≡ Some command
  pub bytes : List ℕ
  pub given : ReadsAll command left bytes left'
  pub is : IsSo command bytes line

-- The text is the status's, for the bytes that the source gave.
abbrev pub IsTextOf : List (List ℕ) → Status → Option (List ℕ) → Option (List ℕ) → List ℕ → Type 0
IsTextOf words Syntax left left' text = IsPrintedOf IsNoText words left left' text
IsTextOf words Refused left left' text = IsPrintedOf IsRefused words left left' text
IsTextOf words status left left' text = text ≡ constant_text status

-- The status's text was written to the sink, with its count of faults before and after.
pub record PrintsStatus (words : List (List ℕ)) (status : Status)
    (left left' taken : Option (List ℕ)) (faults : ℕ) (taken' : Option (List ℕ))
    (faults' : ℕ) : Type 0 where
  pub text : List ℕ
  pub right : IsTextOf words status left left' text
  pub prints : Prints taken faults text taken' faults'

-- The views of the outside for a call: the bytes that the source has left, the bytes that the sinks for the output and for
-- errors have taken, and the count of faults of each.
pub record Outside (A B E : Type 0) : Type 0 where
  pub left : A → Option (List ℕ)
  pub read_faults : A → ℕ
  pub taken : B → Option (List ℕ)
  pub write_faults : B → ℕ
  pub printed : E → Option (List ℕ)
  pub print_faults : E → ℕ

-- The words were served with this status. The arguments are the source, the sink and the sink for errors before and after.
pub record AreServed {A B E : Type 0} (see : Outside A B E) (words : List (List ℕ)) (status : Status) (source source' : A)
    (out out' : B) (err err' : E) : Type 0 where
  -- The arrays are those of the one-thread meaning of the program that the source gave to its end, and the transfers are a
  -- complete legal run of the program's table. The same holds of an output that was audited, and a summary is the summary of
  -- such a run.
  pub done : status ≡ Done
      → WritesOutput words (see.left source) (see.left source') Done (see.taken out) (see.taken out')
  -- An output that was audited isn't the program's, and the line reports that.
  pub illegal : status ≡ Illegal
      → WritesOutput words (see.left source) (see.left source') Illegal (see.taken out) (see.taken out')
  -- Each command is served with its status, unless an allocation or the outside fails.
  pub complete : (command : Command) → form_of words ≡ Some command
      → (bytes : List ℕ) → AreInput command (see.left source) bytes
      → (ended : Status) → EndsWith command bytes ended
      → (FailsToRead command (see.read_faults source) (see.read_faults source') → ⊥)
      → (Rose (see.write_faults out) (see.write_faults out') → ⊥)
      → (status ≡ ended) ⊎ (status ≡ NoMemory)
  -- The conditions of each other status. The texts of Syntax and Refused have their causes. Words that are no form are Usage,
  -- unless an allocation fails while they are read.
  pub usage : status ≡ Usage → form_of words ≡ None
  pub no_form : form_of words ≡ None → (status ≡ Usage) ⊎ (status ≡ NoMemory)
  pub too_long : status ≡ TooLong → IsTooLong words (see.left source) (see.left source')
  pub read_fault : status ≡ ReadFault → Rose (see.read_faults source) (see.read_faults source')
  pub write_fault : status ≡ WriteFault → Rose (see.write_faults out) (see.write_faults out')
  pub lines : status ≢ Done → status ≢ Illegal
      → PrintsStatus words status (see.left source) (see.left source') (see.printed err) (see.print_faults err)
      (see.printed err') (see.print_faults err')
  -- The bytes that the source gave and the sinks took with any other status.
  pub prefix : status ≡ WriteFault
      → WritesPrefix words (see.left source) (see.left source') (see.taken out) (see.taken out')
  pub source_stays : form_of words ≡ None → source' ≡ source
  pub made_from_nothing : (seed size harts : ℕ) → form_of words ≡ Some (Make seed size harts)
      → source' ≡ source
  pub out_stays : status ≢ Done → status ≢ Illegal → status ≢ WriteFault → out' ≡ out
  pub err_stays : (status ≡ Done) ⊎ (status ≡ Illegal) → err' ≡ err
