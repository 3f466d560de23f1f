-- The three ways in which a call ends: with a fault, with a picture that the sink took in part, and with one that it took whole.
use Rattle.std.proofs.Common.{◌≡◌, ◌≢◌, ◌∙◌, ◌⊎◌, ℕ, List, Option, Some, None, Result, Ok, Err, IfOk, IfErr, sym, ap, subst, refl, inl, inr, arith}
use Rattle.std.proofs.lemmas.Option.{same_Some}
use Rattle.outside_io.specs.Outside.{Rose, Appends}
use Rattle.run_audit.specs.Parts.{most_audited}
use Rattle.run_audit.specs.declared.verdict.Verdict.{Verdict}
use Rattle.picture_call.specs.declared.picture.Form.{Form}
use Rattle.picture_call.specs.Picture.{Pictured}
use Rattle.lithe_call.specs.Auditing.{status_by}
use Rattle.lithe_call.specs.FaultOf.{status_of}
use Rattle.lithe_call.specs.Served.{Outside}
use Rattle.lithe_call.specs.Printing.{AppendsPrefix, GivesWithin, Prints}
use Rattle.lithe_call.specs.declared.fault.Fault.{Fault}
use Rattle.lithe_call.specs.declared.fault.Fault.TheVariants as fault
use Rattle.lithe_call.specs.declared.status.Status.{Status}
use Rattle.lithe_call.specs.declared.status.Status.TheVariants as status
use Rattle.lithe_call.proofs.Causes.{given_bytes, more_of_left}
use Rattle.picture_call.specs.declared.runner.Runner.{Runner}
use Rattle.picture_call.specs.Causes.{GivesLong, HasNoPicture, HasNoText, HasRefused, IsFault, IsLong}
use Rattle.picture_call.specs.Pictures.{EndsAs, HasPicture, IsJudged, IsPictureFor}
use Rattle.picture_call.specs.Shown.{AreShown, PrintsWhy, WritesPicture}
use Rattle.picture_call.specs.Texts.{fault_text, own_text}
use Rattle.picture_call.specs.Words.{parsed_form, parsed_run}
use Rattle.picture_call.proofs.Found.{drawn_judged, long_judged, no_text_judged, one_verdict, refused_judged, written}

-- ---- why there is no picture, of what was read
pub fault_of_bytes : (words : List (List ℕ)) (runner : Runner) (harts : ℕ) (why : Fault) (bytes : List ℕ) (left left' : Option (List ℕ)) (faults faults' : ℕ)
    → parsed_run words ≡ Some (runner, harts) → GivesWithin most_audited left bytes left' → HasNoPicture runner harts bytes why → IsFault words why left left' faults faults'
fault_of_bytes words runner harts fault.Usage bytes left left' faults faults' parsed given h = absurd h
fault_of_bytes words runner harts fault.TooLong bytes left left' faults faults' parsed given h =
    record { runner = runner; harts = harts; parsed = parsed; longer = inr (bytes, given, h) }
fault_of_bytes words runner harts fault.ReadFault bytes left left' faults faults' parsed given h = absurd h
fault_of_bytes words runner harts (fault.Syntax line) bytes left left' faults faults' parsed given h =
    record { runner = runner; harts = harts; parsed = parsed; bytes = bytes; given = given; is = h }
fault_of_bytes words runner harts (fault.Refused line) bytes left left' faults faults' parsed given h =
    record { runner = runner; harts = harts; parsed = parsed; bytes = bytes; given = given; is = h }
fault_of_bytes words runner harts fault.Memory bytes left left' faults faults' parsed given h = tt

pub no_picture_is_fault : {X : Type 0} (words : List (List ℕ)) (runner : Runner) (harts : ℕ) (result : Result X Fault) (bytes : List ℕ) (left left' : Option (List ℕ)) (faults faults' : ℕ)
    → parsed_run words ≡ Some (runner, harts) → GivesWithin most_audited left bytes left' → IfErr result (HasNoPicture runner harts bytes)
    → IfErr result (λ why. IsFault words why left left' faults faults')
no_picture_is_fault words runner harts (Ok x) bytes left left' faults faults' parsed given h = tt
no_picture_is_fault words runner harts (Err why) bytes left left' faults faults' parsed given h = fault_of_bytes words runner harts why bytes left left' faults faults' parsed given h

pub picture_of_given : {X : Type 0} (seen : X → Pictured) (words : List (List ℕ)) (form : Form) (runner : Runner) (harts : ℕ) (result : Result X Fault) (bytes : List ℕ) (left left' : Option (List ℕ))
    → parsed_form words ≡ Some form → parsed_run words ≡ Some (runner, harts) → GivesWithin most_audited left bytes left' → IfOk result (λ x. HasPicture form runner harts bytes (seen x))
    → IfOk result (λ x. IsPictureFor words left left' (status_by (seen x).verdict) (seen x).text)
picture_of_given seen words form runner harts (Ok x) bytes left left' named parsed given has = record {
  form = form;
  named = named;
  runner = runner;
  harts = harts;
  parsed = parsed;
  bytes = bytes;
  given = given;
  picture = seen x;
  has = has;
  same = refl;
  printed = refl;
}
picture_of_given seen words form runner harts (Err why) bytes left left' named parsed given has = tt

-- ---- what a fault's text says is the status's text
why_written : (words : List (List ℕ)) (why : Fault) (left left' taken : Option (List ℕ)) (faults faults' printed : ℕ) (taken' : Option (List ℕ)) (printed' : ℕ)
    → IsFault words why left left' faults faults' → Prints taken printed (fault_text why) taken' printed'
    → PrintsWhy words (status_of why) left left' taken printed taken' printed'
why_written words fault.Usage left left' taken faults faults' printed taken' printed' is appended = record { text = fault_text fault.Usage; right = refl; prints = appended }
why_written words fault.TooLong left left' taken faults faults' printed taken' printed' is appended = record { text = fault_text fault.TooLong; right = refl; prints = appended }
why_written words fault.ReadFault left left' taken faults faults' printed taken' printed' is appended = record { text = fault_text fault.ReadFault; right = refl; prints = appended }
why_written words (fault.Syntax line) left left' taken faults faults' printed taken' printed' is appended = record { text = line.items; right = is; prints = appended }
why_written words (fault.Refused line) left left' taken faults faults' printed taken' printed' is appended = record { text = line.items; right = is; prints = appended }
why_written words fault.Memory left left' taken faults faults' printed taken' printed' is appended = record { text = fault_text fault.Memory; right = refl; prints = appended }

-- With a fault nothing was written.
unwritten : (why : Fault) → (status_of why ≢ status.Done) × (status_of why ≢ status.Illegal) × (status_of why ≢ status.WriteFault)
unwritten fault.Usage = (λ e. cc e, λ e. cc e, λ e. cc e)
unwritten fault.TooLong = (λ e. cc e, λ e. cc e, λ e. cc e)
unwritten fault.ReadFault = (λ e. cc e, λ e. cc e, λ e. cc e)
unwritten (fault.Syntax line) = (λ e. cc e, λ e. cc e, λ e. cc e)
unwritten (fault.Refused line) = (λ e. cc e, λ e. cc e, λ e. cc e)
unwritten fault.Memory = (λ e. cc e, λ e. cc e, λ e. cc e)

-- Words that are no form request nothing.
formless : {X : Type 0} (words : List (List ℕ)) (run : Runner × ℕ) → parsed_run words ≡ Some run → parsed_run words ≡ None → X
formless words run is none = let bad : Some run ≡ None = sym is ∙ none in cc bad

-- ---- the fault of each status
usage_printed : (words : List (List ℕ)) (why : Fault) (left left' : Option (List ℕ)) (faults faults' : ℕ)
    → IsFault words why left left' faults faults' → status_of why ≡ status.Usage → parsed_run words ≡ None
usage_printed words fault.Usage left left' faults faults' h e = h
usage_printed words fault.TooLong left left' faults faults' h e = cc e
usage_printed words fault.ReadFault left left' faults faults' h e = cc e
usage_printed words (fault.Syntax line) left left' faults faults' h e = cc e
usage_printed words (fault.Refused line) left left' faults faults' h e = cc e
usage_printed words fault.Memory left left' faults faults' h e = cc e

no_form_printed : (words : List (List ℕ)) (why : Fault) (left left' : Option (List ℕ)) (faults faults' : ℕ)
    → IsFault words why left left' faults faults' → parsed_run words ≡ None → (status_of why ≡ status.Usage) ⊎ (status_of why ≡ status.NoMemory)
no_form_printed words fault.Usage left left' faults faults' h none = inl refl
no_form_printed words fault.TooLong left left' faults faults' h none = formless words (h.runner, h.harts) h.parsed none
no_form_printed words fault.ReadFault left left' faults faults' h none = formless words (h.runner, h.harts) h.parsed none
no_form_printed words (fault.Syntax line) left left' faults faults' h none = formless words (h.runner, h.harts) h.parsed none
no_form_printed words (fault.Refused line) left left' faults faults' h none = formless words (h.runner, h.harts) h.parsed none
no_form_printed words fault.Memory left left' faults faults' h none = inr refl

too_long_printed : (words : List (List ℕ)) (why : Fault) (left left' : Option (List ℕ)) (faults faults' : ℕ)
    → IsFault words why left left' faults faults' → status_of why ≡ status.TooLong → GivesLong words left left'
too_long_printed words fault.Usage left left' faults faults' h e = cc e
too_long_printed words fault.TooLong left left' faults faults' h e = h
too_long_printed words fault.ReadFault left left' faults faults' h e = cc e
too_long_printed words (fault.Syntax line) left left' faults faults' h e = cc e
too_long_printed words (fault.Refused line) left left' faults faults' h e = cc e
too_long_printed words fault.Memory left left' faults faults' h e = cc e

read_fault_printed : (words : List (List ℕ)) (why : Fault) (left left' : Option (List ℕ)) (faults faults' : ℕ)
    → IsFault words why left left' faults faults' → status_of why ≡ status.ReadFault → Rose faults faults'
read_fault_printed words fault.Usage left left' faults faults' h e = cc e
read_fault_printed words fault.TooLong left left' faults faults' h e = cc e
read_fault_printed words fault.ReadFault left left' faults faults' h e = h.rose
read_fault_printed words (fault.Syntax line) left left' faults faults' h e = cc e
read_fault_printed words (fault.Refused line) left left' faults faults' h e = cc e
read_fault_printed words fault.Memory left left' faults faults' h e = cc e

-- ---- an input with a verdict has no other fault than an allocation failure, while the source doesn't fail
module _ (words : List (List ℕ)) (runner : Runner) (harts : ℕ) (parsed : parsed_run words ≡ Some (runner, harts))
    (bytes : List ℕ) (left left' : Option (List ℕ)) (input : left ≡ Some bytes) (ended : Status) (ends : EndsAs runner harts bytes ended) where
  -- What the words request, and what was read, are the same.
  same_run : (other : Runner) (count : ℕ) → parsed_run words ≡ Some (other, count) → (other ≡ runner) × (count ≡ harts)
  same_run other count is =
      let same : (other, count) ≡ (runner, harts) = same_Some (other, count) (runner, harts) (sym is ∙ parsed) in
      (ap (λ (r : Runner × ℕ). r.0) same, ap (λ (r : Runner × ℕ). r.1) same)

  same_input : (IsSo : Runner → ℕ → List ℕ → Type 0) (other : Runner) (count : ℕ) (read : List ℕ) → parsed_run words ≡ Some (other, count) → GivesWithin most_audited left read left'
      → IsSo other count read → IsSo runner harts bytes
  same_input IsSo other count read is given so =
      let run = same_run other count is in
      subst (λ (b : List ℕ). IsSo runner harts b) (sym (given_bytes bytes read left left' input given.given))
      (subst (λ (n : ℕ). IsSo runner n read) run.1 (subst (λ (r : Runner). IsSo r count read) run.0 so))

  only_memory : (why : Fault) (faults faults' : ℕ) → IsFault words why left left' faults faults' → (Rose faults faults' → ⊥)
      → (status_of why ≡ ended) ⊎ (status_of why ≡ status.NoMemory)
  only_memory fault.Usage faults faults' h calm = formless words (runner, harts) parsed h
  only_memory fault.TooLong faults faults' h calm = elim h.longer [
    | inl more ↦ absurd (omega (arith, more_of_left left left' 4194304 more bytes input, ends.0))
    | inr part ↦ absurd (long_judged runner harts bytes ends.1.0 (subst IsLong (sym (given_bytes bytes part.0 left left' input part.1.given)) part.2) ends.1.1)
  ]
  only_memory fault.ReadFault faults faults' h calm = absurd (calm h.rose)
  only_memory (fault.Syntax line) faults faults' h calm =
      absurd (no_text_judged runner harts bytes line.items ends.1.0 (same_input (λ r n b. HasNoText r n b line.items) h.runner h.harts h.bytes h.parsed h.given h.is) ends.1.1)
  only_memory (fault.Refused line) faults faults' h calm =
      absurd (refused_judged runner harts bytes line.items ends.1.0 (same_input (λ r n b. HasRefused r n b line.items) h.runner h.harts h.bytes h.parsed h.given h.is) ends.1.1)
  only_memory fault.Memory faults faults' h calm = inr refl

  -- And a picture of it has its verdict's status.
  drawn_ends : (s : Status) (text : List ℕ) → IsPictureFor words left left' s text → s ≡ ended
  drawn_ends s text picture =
      let read = drawn_judged picture.form picture.runner picture.harts picture.bytes picture.picture picture.has in
      let own = same_input (λ r n b. IsJudged r n b picture.picture.verdict) picture.runner picture.harts picture.bytes picture.parsed picture.given read in
      picture.same ∙ ap status_by (one_verdict runner harts bytes picture.picture.verdict ends.1.0 own ends.1.1) ∙ sym ends.1.2

module _ {A B E : Type 0} (see : Outside A B E) (words : List (List ℕ)) (source source' : A)
    (stays : parsed_run words ≡ None → source' ≡ source) where
  pub fault_shown : (why : Fault) (out : B) (err err' : E)
      → IsFault words why (see.left source) (see.left source') (see.read_faults source) (see.read_faults source')
      → Prints (see.printed err) (see.print_faults err) (fault_text why) (see.printed err') (see.print_faults err')
      → AreShown see words (status_of why) source source' out out err err'
  fault_shown why out err err' is appended =
      let left = see.left source in
      let left' = see.left source' in
      let faults = see.read_faults source in
      let faults' = see.read_faults source' in
      record {
        done = λ e. absurd ((unwritten why).0 e);
        illegal = λ e. absurd ((unwritten why).1 e);
        complete = λ runner harts parsed bytes input ended ends calm quiet. only_memory words runner harts parsed bytes left left' input ended ends why faults faults' is calm;
        usage = usage_printed words why left left' faults faults' is;
        no_form = no_form_printed words why left left' faults faults' is;
        too_long = too_long_printed words why left left' faults faults' is;
        read_fault = read_fault_printed words why left left' faults faults' is;
        write_fault = λ e. absurd ((unwritten why).2 e);
        lines = λ not_done not_illegal. why_written words why left left' (see.printed err) faults faults' (see.print_faults err) (see.printed err') (see.print_faults err') is appended;
        prefix = λ e. absurd ((unwritten why).2 e);
        source_stays = stays;
        out_stays = λ not_done not_illegal not_write. refl;
        err_stays = λ e. absurd (elim e [ inl is ↦ (unwritten why).0 is | inr is ↦ (unwritten why).1 is ]);
      }

  module _ (found : Verdict) (text : List ℕ) (out out' : B) (err err' : E)
      (picture : IsPictureFor words (see.left source) (see.left source') (status_by found) text) where
    pub part_shown : Rose (see.write_faults out) (see.write_faults out') → AppendsPrefix (see.taken out) text (see.taken out')
        → Prints (see.printed err) (see.print_faults err) (own_text status.WriteFault) (see.printed err') (see.print_faults err')
        → AreShown see words status.WriteFault source source' out out' err err'
    part_shown rose taken appended = record {
      done = λ e. cc e;
      illegal = λ e. cc e;
      complete = λ runner harts parsed bytes input ended ends calm quiet. absurd (quiet rose);
      usage = λ e. cc e;
      no_form = λ none. formless words (picture.runner, picture.harts) picture.parsed none;
      too_long = λ e. cc e;
      read_fault = λ e. cc e;
      write_fault = λ e. rose;
      lines = λ not_done not_illegal. record { text = own_text status.WriteFault; right = refl; prints = appended };
      prefix = λ e. record { status = status_by found; text = text; picture = picture; written = taken };
      source_stays = stays;
      out_stays = λ not_done not_illegal not_write. absurd (not_write refl);
      err_stays = λ e. elim e [ inl is ↦ cc is | inr is ↦ cc is ];
    }

    pub whole_shown : Appends (see.taken out) text (see.taken out') → err' ≡ err
        → AreShown see words (status_by found) source source' out out' err err'
    whole_shown taken same =
        let took : (s : Status) → status_by found ≡ s → WritesPicture words (see.left source) (see.left source') s (see.taken out) (see.taken out') =
        λ s e. subst (λ (t : Status). WritesPicture words (see.left source) (see.left source') t (see.taken out) (see.taken out')) e
        (record { text = text; picture = picture; written = taken }) in
        record {
          done = took status.Done;
          illegal = took status.Illegal;
          complete = λ runner harts parsed bytes input ended ends calm quiet.
              inl (drawn_ends words runner harts parsed bytes (see.left source) (see.left source') input ended ends (status_by found) text picture);
          usage = λ e. elim (written found status.Usage e) [ inl is ↦ cc is | inr is ↦ cc is ];
          no_form = λ none. formless words (picture.runner, picture.harts) picture.parsed none;
          too_long = λ e. elim (written found status.TooLong e) [ inl is ↦ cc is | inr is ↦ cc is ];
          read_fault = λ e. elim (written found status.ReadFault e) [ inl is ↦ cc is | inr is ↦ cc is ];
          write_fault = λ e. elim (written found status.WriteFault e) [ inl is ↦ cc is | inr is ↦ cc is ];
          lines = λ not_done not_illegal. absurd (elim (written found (status_by found) refl) [ inl is ↦ not_done is | inr is ↦ not_illegal is ]);
          prefix = λ e. elim (written found status.WriteFault e) [ inl is ↦ cc is | inr is ↦ cc is ];
          source_stays = stays;
          out_stays = λ not_done not_illegal not_write. absurd (elim (written found (status_by found) refl) [ inl is ↦ not_done is | inr is ↦ not_illegal is ]);
          err_stays = λ e. same;
        }
