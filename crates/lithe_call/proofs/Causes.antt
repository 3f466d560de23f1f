-- The faults of a call, from the faults of its steps.
use Rattle.std.proofs.Common.{◌≡◌, ◌≢◌, ◌⊎◌, ◌∙◌, ◌≤◌, ◌<◌, ◌+◌, ℕ, List, ◌++◌, length, length-append, Option, Some, None, sym, ap, subst, append-nil, arith, inl, inr, refl}
use Rattle.array_tree.specs.Trees.{ProgramTree}
use Rattle.array_lang.specs.Spelled.{Spells, HasFault}
use Rattle.array_lang.specs.declared.fault.SyntaxFault.{SyntaxFault}
use Rattle.array_lang.specs.declared.fault.SyntaxFault.TheVariants as syntax
use Rattle.error_text.specs.SyntaxText.{syntax_text}
use Rattle.error_text.specs.RefusalText.{refusal_text}
use Rattle.disjoint_check.proofs.Accepting.{none_of_accepted}
use Rattle.disjoint_check.specs.declared.fault.CheckFault.{CheckFault}
use Rattle.disjoint_check.specs.declared.fault.CheckFault.TheVariants as check
use Rattle.lithe_call.specs.Lines.{PrintsSyntax, PrintsRefusal, ReportsSyntax, ReportsRefusal}
use Rattle.lithe_call.specs.Printing.{GivesAll, GivesMore, Prints}
use Rattle.lithe_call.specs.Inputs.{ReadsAll}
use Rattle.command_words.specs.Form.{form_of}
use Rattle.lithe_call.specs.Faults.{SpellNothing, SpellRefused, IsPrintedFault, IsUnaccepted, IsNoText, IsRefused, IsFault, IsNoOutput}
use Rattle.lithe_call.specs.FaultOf.{status_of, line_of}
use Rattle.lithe_call.specs.Served.{PrintsStatus}
use Rattle.command_words.specs.declared.command.Command.{Command}
use Rattle.command_words.specs.declared.command.Command.TheVariants.{Run, Tally, Pipe, Solo}
use Rattle.lithe_call.specs.declared.fault.Fault.{Fault}
use Rattle.lithe_call.specs.declared.fault.Fault.TheVariants as fault

-- The bytes that were read are those that a source with known bytes had left.
pub given_bytes : (bytes read : List ℕ) (left left' : Option (List ℕ)) → left ≡ Some bytes → GivesAll left read left' → bytes ≡ read
given_bytes bytes read None left' e all = cc
given_bytes bytes read (Some b) None e all = absurd all.given
given_bytes bytes read (Some b) (Some rest) e all =
    let same : b ≡ bytes = cc in
    sym same ∙ all.given ∙ ap (λ r. read ++ r) all.ended ∙ append-nil read

-- A cause without output for the bytes read is a cause for the source.
pub no_output_is_fault : (words : List (List ℕ)) (command : Command) (why : Fault) (read : List ℕ) (left left' : Option (List ℕ)) (faults faults' : ℕ) → form_of words ≡ Some command →
    ReadsAll command left read left' → IsNoOutput command read why → IsFault words why left left' faults faults'
no_output_is_fault words command fault.Usage read left left' faults faults' form all h = absurd h
no_output_is_fault words command fault.TooLong read left left' faults faults' form all h = (command, form, inr (read, all, h))
no_output_is_fault words command fault.ReadFault read left left' faults faults' form all h = absurd h
no_output_is_fault words command (fault.Syntax line) read left left' faults faults' form all h = (command, form, (read, all, h))
no_output_is_fault words command (fault.Refused line) read left left' faults faults' form all h = (command, form, (read, all, h))
no_output_is_fault words command fault.Memory read left left' faults faults' form all h = tt

-- The line of a fault is the text of its status.
pub fault_printed : (words : List (List ℕ)) (why : Fault) (left left' taken : Option (List ℕ)) (faults faults' printed : ℕ) (taken' : Option (List ℕ)) (printed' : ℕ) →
    IsFault words why left left' faults faults' → Prints taken printed (line_of why) taken' printed' → PrintsStatus words (status_of why) left left' taken printed taken' printed'
fault_printed words fault.Usage left left' taken faults faults' printed taken' printed' h prints = record { text = line_of fault.Usage; right = refl; prints = prints }
fault_printed words fault.TooLong left left' taken faults faults' printed taken' printed' h prints = record { text = line_of fault.TooLong; right = refl; prints = prints }
fault_printed words fault.ReadFault left left' taken faults faults' printed taken' printed' h prints = record { text = line_of fault.ReadFault; right = refl; prints = prints }
fault_printed words (fault.Syntax line) left left' taken faults faults' printed taken' printed' h prints =
    record { text = line.items; right = record { command = h.0; form = h.1; bytes = h.2.0; given = h.2.1; is = h.2.2 }; prints = prints }
fault_printed words (fault.Refused line) left left' taken faults faults' printed taken' printed' h prints =
    record { text = line.items; right = record { command = h.0; form = h.1; bytes = h.2.0; given = h.2.1; is = h.2.2 }; prints = prints }
fault_printed words fault.Memory left left' taken faults faults' printed taken' printed' h prints = record { text = line_of fault.Memory; right = refl; prints = prints }

-- If more bytes than a limit were given, the source had more than the limit.
pub more_of_left : (left left' : Option (List ℕ)) (limit : ℕ) → GivesMore left limit left' → (bytes : List ℕ) → left ≡ Some bytes → limit < length bytes
more_of_left None left' limit more bytes e = cc
more_of_left (Some b) None limit more bytes e = absurd more.given
more_of_left (Some b) (Some rest) limit more bytes e =
    let same : b ≡ bytes = cc in
    let whole : length b ≡ length more.bytes + length rest = ap length more.given ∙ length-append more.bytes rest in
    subst (λ (l : List ℕ). limit < length l) same (omega (arith, whole, more.longer))

-- ---- from the faults of the steps to those of a command

-- A line that reports one thing reports another that follows from it.
pub syntax_for : (IsSo IsMore : List ℕ → Type 0) (why : Fault) → ((line : List ℕ) → IsSo line → IsMore line) → ReportsSyntax IsSo why → ReportsSyntax IsMore why
syntax_for IsSo IsMore fault.Usage more reports = absurd reports
syntax_for IsSo IsMore fault.TooLong more reports = absurd reports
syntax_for IsSo IsMore fault.ReadFault more reports = absurd reports
syntax_for IsSo IsMore (fault.Syntax line) more reports = more line.items reports
syntax_for IsSo IsMore (fault.Refused line) more reports = absurd reports
syntax_for IsSo IsMore fault.Memory more reports = tt

pub refusal_for : (IsSo IsMore : List ℕ → Type 0) (why : Fault) → ((line : List ℕ) → IsSo line → IsMore line) → ReportsRefusal IsSo why → ReportsRefusal IsMore why
refusal_for IsSo IsMore fault.Usage more reports = absurd reports
refusal_for IsSo IsMore fault.TooLong more reports = absurd reports
refusal_for IsSo IsMore fault.ReadFault more reports = absurd reports
refusal_for IsSo IsMore (fault.Syntax line) more reports = absurd reports
refusal_for IsSo IsMore (fault.Refused line) more reports = more line.items reports
refusal_for IsSo IsMore fault.Memory more reports = tt

-- What a command reports is why it has no output.
pub syntax_no_output : (command : Command) (bytes : List ℕ) (why : Fault) → ReportsSyntax (IsNoText command bytes) why → IsNoOutput command bytes why
syntax_no_output command bytes fault.Usage reports = reports
syntax_no_output command bytes fault.TooLong reports = absurd reports
syntax_no_output command bytes fault.ReadFault reports = reports
syntax_no_output command bytes (fault.Syntax line) reports = reports
syntax_no_output command bytes (fault.Refused line) reports = absurd reports
syntax_no_output command bytes fault.Memory reports = tt

pub refusal_no_output : (command : Command) (bytes : List ℕ) (why : Fault) → ReportsRefusal (IsRefused command bytes) why → IsNoOutput command bytes why
refusal_no_output command bytes fault.Usage reports = reports
refusal_no_output command bytes fault.TooLong reports = absurd reports
refusal_no_output command bytes fault.ReadFault reports = reports
refusal_no_output command bytes (fault.Syntax line) reports = absurd reports
refusal_no_output command bytes (fault.Refused line) reports = reports
refusal_no_output command bytes fault.Memory reports = tt

-- The text spells no program.
pub syntax_line_printed : (bytes : List ℕ) (cause : SyntaxFault) (why : Fault) → length bytes ≤ 65536 → PrintsSyntax cause why →
    ((program : ProgramTree) → Spells bytes program → cause ≡ syntax.Memory) → HasFault bytes cause → ReportsSyntax (SpellNothing bytes) why
syntax_line_printed bytes cause why short prints only first =
    syntax_for (λ line. (cause ≢ syntax.Memory) × (line ≡ syntax_text cause)) (SpellNothing bytes) why
    (λ line is. record { short = short; nothing = λ program spelled. is.0 (only program spelled); fault = cause; first = first; real = is.0; printed = is.1 }) prints

-- The check finds this fault of the program.
pub refusal_printed : (found : Option CheckFault) (program : ProgramTree) (cause : CheckFault) (why : Fault) → PrintsRefusal program cause why →
    (cause ≡ check.Memory) ⊎ (found ≡ Some cause) → ReportsRefusal (IsPrintedFault found program) why
refusal_printed found program cause why prints first =
    refusal_for (λ line. (cause ≢ check.Memory) × (line ≡ refusal_text program cause)) (IsPrintedFault found program) why
    (λ line is. elim first [
      | inl memory ↦ absurd (is.0 memory)
      | inr same ↦ record { fault = cause; is = same; real = is.0; printed = is.1 }
    ]) prints

-- The bytes spell a program that isn't accepted.
pub spelled_refused : (harts : ℕ) (bytes : List ℕ) (program : ProgramTree) → length bytes ≤ 65536 → Spells bytes program → (line : List ℕ) → IsUnaccepted harts program line → SpellRefused harts bytes line
spelled_refused harts bytes program short spelled line is = record {
  short = short;
  program = program;
  spelled = spelled;
  refused = λ accepted. let bad : None ≡ Some is.fault = sym (none_of_accepted program harts accepted) ∙ is.is in cc bad;
  first = is;
}

pub refused_line : (harts : ℕ) (bytes : List ℕ) (program : ProgramTree) (why : Fault) → length bytes ≤ 65536 → Spells bytes program → ReportsRefusal (IsUnaccepted harts program) why →
    ReportsRefusal (SpellRefused harts bytes) why
refused_line harts bytes program why short spelled reports =
    refusal_for (IsUnaccepted harts program) (SpellRefused harts bytes) why (spelled_refused harts bytes program short spelled) reports

-- ---- the same for each command that reads a program
pub run_nothing : (harts : ℕ) (bytes : List ℕ) (why : Fault) → ReportsSyntax (SpellNothing bytes) why → IsNoOutput (Run harts) bytes why
run_nothing harts bytes why reports = syntax_no_output (Run harts) bytes why reports

pub solo_nothing : (bytes : List ℕ) (why : Fault) → ReportsSyntax (SpellNothing bytes) why → IsNoOutput Solo bytes why
solo_nothing bytes why reports = syntax_no_output Solo bytes why reports

pub tally_nothing : (harts : ℕ) (bytes : List ℕ) (why : Fault) → ReportsSyntax (SpellNothing bytes) why → IsNoOutput (Tally harts) bytes why
tally_nothing harts bytes why reports = syntax_no_output (Tally harts) bytes why reports

pub pipe_nothing : (harts : ℕ) (bytes : List ℕ) (why : Fault) → ReportsSyntax (SpellNothing bytes) why → IsNoOutput (Pipe harts) bytes why
pipe_nothing harts bytes why reports = syntax_no_output (Pipe harts) bytes why reports

pub run_refused : (harts : ℕ) (bytes : List ℕ) (program : ProgramTree) (why : Fault) → length bytes ≤ 65536 → Spells bytes program → ReportsRefusal (IsUnaccepted harts program) why →
    IsNoOutput (Run harts) bytes why
run_refused harts bytes program why short spelled reports = refusal_no_output (Run harts) bytes why (refused_line harts bytes program why short spelled reports)

pub solo_refused : (bytes : List ℕ) (program : ProgramTree) (why : Fault) → length bytes ≤ 65536 → Spells bytes program → ReportsRefusal (IsUnaccepted 1 program) why →
    IsNoOutput Solo bytes why
solo_refused bytes program why short spelled reports = refusal_no_output Solo bytes why (refused_line 1 bytes program why short spelled reports)
