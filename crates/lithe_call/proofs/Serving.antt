-- The three endings of a call: a fault, an output that the sink took in part, and one that it took completely.
use Rattle.std.proofs.Common.{◌≡◌, ◌⊎◌, ◌∙◌, ℕ, List, Option, Some, None, sym, subst, refl, inl, inr}
use Rattle.outside_io.specs.Outside.{Rose, Appends}
use Rattle.command_words.specs.Form.{form_of}
use Rattle.command_words.specs.declared.command.Command.{Command}
use Rattle.command_words.specs.declared.command.Command.TheVariants.{Make}
use Rattle.lithe_call.specs.Auditing.{status_of_ending}
use Rattle.lithe_call.specs.Faults.{IsFault}
use Rattle.lithe_call.specs.FaultOf.{status_of, line_of}
use Rattle.lithe_call.specs.Served.{IsOutputFor, WritesOutput, Outside, AreServed}
use Rattle.lithe_call.specs.Status.{constant_text}
use Rattle.lithe_call.specs.Printing.{AppendsPrefix, Prints}
use Rattle.lithe_call.specs.declared.answer.Ending.{Ending}
use Rattle.lithe_call.specs.declared.answer.Ending.TheVariants as ending
use Rattle.lithe_call.specs.declared.fault.Fault.{Fault}
use Rattle.lithe_call.specs.declared.fault.Fault.TheVariants as fault
use Rattle.lithe_call.specs.declared.status.Status.{Status}
use Rattle.lithe_call.specs.declared.status.Status.TheVariants as status
use Rattle.lithe_call.proofs.Causes.{fault_printed}
use Rattle.lithe_call.proofs.Endings.{only_memory, one_ending, too_long_printed, read_fault_printed}

-- ---- a fault's status

-- A fault's status isn't that of a written output.
pub no_output : (why : Fault) → (status_of why ≡ status.Done) ⊎ (status_of why ≡ status.Illegal) → ⊥
no_output fault.Usage e = elim e [ inl is ↦ cc is | inr is ↦ cc is ]
no_output fault.TooLong e = elim e [ inl is ↦ cc is | inr is ↦ cc is ]
no_output fault.ReadFault e = elim e [ inl is ↦ cc is | inr is ↦ cc is ]
no_output (fault.Syntax line) e = elim e [ inl is ↦ cc is | inr is ↦ cc is ]
no_output (fault.Refused line) e = elim e [ inl is ↦ cc is | inr is ↦ cc is ]
no_output fault.Memory e = elim e [ inl is ↦ cc is | inr is ↦ cc is ]

pub no_write : (why : Fault) → status_of why ≡ status.WriteFault → ⊥
no_write fault.Usage e = cc e
no_write fault.TooLong e = cc e
no_write fault.ReadFault e = cc e
no_write (fault.Syntax line) e = cc e
no_write (fault.Refused line) e = cc e
no_write fault.Memory e = cc e

usage_printed : (words : List (List ℕ)) (why : Fault) (left left' : Option (List ℕ)) (faults faults' : ℕ)
    → IsFault words why left left' faults faults' → status_of why ≡ status.Usage → form_of words ≡ None
usage_printed words fault.Usage left left' faults faults' h e = h
usage_printed words fault.TooLong left left' faults faults' h e = cc e
usage_printed words fault.ReadFault left left' faults faults' h e = cc e
usage_printed words (fault.Syntax line) left left' faults faults' h e = cc e
usage_printed words (fault.Refused line) left left' faults faults' h e = cc e
usage_printed words fault.Memory left left' faults faults' h e = cc e

-- Words that are no form have no command.
formless : {X : Type 0} (words : List (List ℕ)) (command : Command) → form_of words ≡ Some command → form_of words ≡ None → X
formless words command is none = let bad : Some command ≡ None = sym is ∙ none in cc bad

no_form_printed : (words : List (List ℕ)) (why : Fault) (left left' : Option (List ℕ)) (faults faults' : ℕ)
    → IsFault words why left left' faults faults' → form_of words ≡ None
    → (status_of why ≡ status.Usage) ⊎ (status_of why ≡ status.NoMemory)
no_form_printed words fault.Usage left left' faults faults' h none = inl refl
no_form_printed words fault.TooLong left left' faults faults' h none = formless words h.0 h.1 none
no_form_printed words fault.ReadFault left left' faults faults' h none = formless words h.0 h.1 none
no_form_printed words (fault.Syntax line) left left' faults faults' h none = formless words h.0 h.1 none
no_form_printed words (fault.Refused line) left left' faults faults' h none = formless words h.0 h.1 none
no_form_printed words fault.Memory left left' faults faults' h none = inr refl

-- ---- the status of an ending
written : (ended : Ending) (s : Status) → status_of_ending ended ≡ s → (s ≡ status.Done) ⊎ (s ≡ status.Illegal)
written ending.Written s e = inl (sym e)
written ending.Illegal s e = inr (sym e)

module _ {A B E : Type 0} (see : Outside A B E) (words : List (List ℕ)) (source source' : A) where
  -- The words alone leave the source unread.
  abbrev Stays : Type 0
  Stays = (form_of words ≡ None → source' ≡ source)
      × ((seed size harts : ℕ) → form_of words ≡ Some (Make seed size harts) → source' ≡ source)

  pub fault_served : (why : Fault) (out : B) (err err' : E)
      → IsFault words why (see.left source) (see.left source') (see.read_faults source) (see.read_faults source')
      → Stays → Prints (see.printed err) (see.print_faults err) (line_of why) (see.printed err') (see.print_faults err')
      → AreServed see words (status_of why) source source' out out err err'
  fault_served why out err err' is stays prints =
      let left = see.left source in
      let left' = see.left source' in
      let faults = see.read_faults source in
      let faults' = see.read_faults source' in
      record {
        done = λ e. absurd (no_output why (inl e));
        illegal = λ e. absurd (no_output why (inr e));
        complete = λ command form bytes input ended ends calm quiet. only_memory words why left left' faults faults' is command form bytes input ended ends calm;
        usage = usage_printed words why left left' faults faults' is;
        no_form = no_form_printed words why left left' faults faults' is;
        too_long = too_long_printed words why left left' faults faults' is;
        read_fault = read_fault_printed words why left left' faults faults' is;
        write_fault = λ e. absurd (no_write why e);
        lines = λ not_done not_illegal. fault_printed words why left left' (see.printed err) faults faults' (see.print_faults err) (see.printed err') (see.print_faults err') is prints;
        prefix = λ e. absurd (no_write why e);
        source_stays = stays.0;
        made_from_nothing = stays.1;
        out_stays = λ not_done not_illegal not_write. refl;
        err_stays = λ e. absurd (no_output why e);
      }

  module _ (ended : Ending) (text : List ℕ) (out out' : B) (err err' : E)
      (output : IsOutputFor words (see.left source) (see.left source') (status_of_ending ended) text) (stays : Stays) where
    pub part_served : Rose (see.write_faults out) (see.write_faults out') → AppendsPrefix (see.taken out) text (see.taken out')
        → Prints (see.printed err) (see.print_faults err) (constant_text status.WriteFault) (see.printed err') (see.print_faults err')
        → AreServed see words status.WriteFault source source' out out' err err'
    part_served rose taken prints = record {
      done = λ e. cc e;
      illegal = λ e. cc e;
      complete = λ command form bytes input ended ends calm quiet. absurd (quiet rose);
      usage = λ e. cc e;
      no_form = λ none. formless words output.command output.form none;
      too_long = λ e. cc e;
      read_fault = λ e. cc e;
      write_fault = λ e. rose;
      lines = λ not_done not_illegal. record { text = constant_text status.WriteFault; right = refl; prints = prints };
      prefix = λ e. record { status = status_of_ending ended; text = text; output = output; written = taken };
      source_stays = stays.0;
      made_from_nothing = stays.1;
      out_stays = λ not_done not_illegal not_write. absurd (not_write refl);
      err_stays = λ e. elim e [ inl is ↦ cc is | inr is ↦ cc is ];
    }

    pub whole_served : Appends (see.taken out) text (see.taken out') → err' ≡ err
        → AreServed see words (status_of_ending ended) source source' out out' err err'
    whole_served taken same =
        let took : (s : Status) → status_of_ending ended ≡ s → WritesOutput words (see.left source) (see.left source') s (see.taken out) (see.taken out') =
        λ s e. subst (λ (t : Status). WritesOutput words (see.left source) (see.left source') t (see.taken out) (see.taken out')) e
        (record { text = text; output = output; written = taken }) in
        record {
          done = took status.Done;
          illegal = took status.Illegal;
          complete = λ command form bytes input wanted ends calm quiet.
              inl (one_ending words (see.left source) (see.left source') (status_of_ending ended) text output command form bytes input wanted ends);
          usage = λ e. elim (written ended status.Usage e) [ inl is ↦ cc is | inr is ↦ cc is ];
          no_form = λ none. formless words output.command output.form none;
          too_long = λ e. elim (written ended status.TooLong e) [ inl is ↦ cc is | inr is ↦ cc is ];
          read_fault = λ e. elim (written ended status.ReadFault e) [ inl is ↦ cc is | inr is ↦ cc is ];
          write_fault = λ e. elim (written ended status.WriteFault e) [ inl is ↦ cc is | inr is ↦ cc is ];
          lines = λ not_done not_illegal. absurd (elim (written ended (status_of_ending ended) refl) [ inl is ↦ not_done is | inr is ↦ not_illegal is ]);
          prefix = λ e. elim (written ended status.WriteFault e) [ inl is ↦ cc is | inr is ↦ cc is ];
          source_stays = stays.0;
          made_from_nothing = stays.1;
          out_stays = λ not_done not_illegal not_write. absurd (elim (written ended (status_of_ending ended) refl) [ inl is ↦ not_done is | inr is ↦ not_illegal is ]);
          err_stays = λ e. same;
        }
