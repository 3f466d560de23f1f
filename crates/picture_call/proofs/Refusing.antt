-- From the faults of the steps to those of the whole.
use Rattle.std.proofs.Common.{◌≡◌, ◌∙◌, ◌≤◌, ℕ, List, length, Some, None, Result, Ok, Err, IfOk, IfErr, OnOk, refl, sym, ap, subst, inl, inr}
use Rattle.transfer_table.specs.Plan.{Plan}
use Rattle.array_tree.specs.Trees.{ProgramTree}
use Rattle.array_lang.specs.Spelled.{Spells}
use Rattle.disjoint_check.specs.Meaning.{HasMeaningFor}
use Rattle.disjoint_check.proofs.Accepting.{none_of_accepted}
use Rattle.journal_text.specs.declared.fault.TextFault.{TextFault}
use Rattle.journal_text.specs.declared.fault.TextFault.TheVariants as text
use Rattle.array_meaning.specs.Plans.{plan_of}
use Rattle.array_meaning.specs.Work.{final_store}
use Rattle.array_meaning.specs.Entered.{entered_of}
use Rattle.array_eval.specs.ArrayText.{array_text}
use Rattle.journal_text.specs.Seen.{Reads}
use Rattle.run_audit.specs.Audit.{audit_of}
use Rattle.journal_picture.specs.declared.shape.Kind.{Kind}
use Rattle.picture_call.specs.Picture.{Pictured, picture_of}
use Rattle.picture_call.specs.declared.picture.Form.{Form}
use Rattle.spread_laws.specs.Faults.{spread_fault_of}
use Rattle.spread_laws.specs.Spread.{spread_of}
use Rattle.lithe_call.specs.Faults.{SpellNothing, IsUnaccepted, PrintsUntallied, PrintsUnpiped}
use Rattle.lithe_call.specs.Lines.{PrintsText, ReportsSyntax, ReportsRefusal}
use Rattle.lithe_call.specs.Programs.{table_plan}
use Rattle.lithe_call.specs.declared.fault.Fault.{Fault}
use Rattle.lithe_call.specs.declared.fault.Fault.TheVariants as fault
use Rattle.lithe_call.proofs.Runs.{printed_plan}
use Rattle.lithe_call.proofs.Tallying.{untallied_line, rows_refused}
use Rattle.lithe_call.proofs.Piping.{unpiped_line, check_refused}
use Rattle.picture_call.specs.declared.runner.Runner.{Runner}
use Rattle.picture_call.specs.declared.runner.Runner.TheVariants.{Run, Tally, Pipe}
use Rattle.picture_call.specs.Causes.{HaveNoPicture, ReportsNoOutput, ReportsNoPicture}
use Rattle.picture_call.specs.Pictures.{AreDrawn, IsRunBy, teams_of}

-- A text that spells no program has no picture.
pub syntax_no_picture : (runner : Runner) (harts : ℕ) (first second : List ℕ) (why : Fault) → ReportsSyntax (SpellNothing first) why → HaveNoPicture runner harts first second why
syntax_no_picture runner harts first second fault.Usage reported = reported
syntax_no_picture runner harts first second fault.TooLong reported = reported
syntax_no_picture runner harts first second fault.ReadFault reported = reported
syntax_no_picture runner harts first second (fault.Syntax line) reported = inl reported
syntax_no_picture runner harts first second (fault.Refused line) reported = absurd reported
syntax_no_picture runner harts first second fault.Memory reported = tt

-- What is so of the program is so of the bytes that spell it.
pub program_no_picture : (runner : Runner) (harts : ℕ) (first second : List ℕ) (program : ProgramTree) (why : Fault) → length first ≤ 65536 → Spells first program
    → ReportsNoPicture runner harts program second why → HaveNoPicture runner harts first second why
program_no_picture runner harts first second program fault.Usage short spelled reported = absurd reported
program_no_picture runner harts first second program fault.TooLong short spelled reported = absurd reported
program_no_picture runner harts first second program fault.ReadFault short spelled reported = absurd reported
program_no_picture runner harts first second program (fault.Syntax line) short spelled reported =
    inr (record { program = program; input = record { short = short; spelled = spelled; run = reported.0 }; is = reported.1 })
program_no_picture Run harts first second program (fault.Refused line) short spelled reported = record {
  short = short;
  program = program;
  spelled = spelled;
  refused = λ accepted. let bad : None ≡ Some reported.fault = sym (none_of_accepted program harts accepted) ∙ reported.is in cc bad;
  first = reported;
}
program_no_picture Tally harts first second program (fault.Refused line) short spelled reported = untallied_line harts first program (fault.Refused line) short spelled reported
program_no_picture Pipe harts first second program (fault.Refused line) short spelled reported = unpiped_line harts first program (fault.Refused line) short spelled reported
program_no_picture runner harts first second program fault.Memory short spelled reported = tt

-- The check refuses the program to `run`.
pub check_no_picture : (harts : ℕ) (program : ProgramTree) (output : List ℕ) (why : Fault) → ReportsRefusal (IsUnaccepted harts program) why → ReportsNoPicture Run harts program output why
check_no_picture harts program output fault.Usage reported = absurd reported
check_no_picture harts program output fault.TooLong reported = absurd reported
check_no_picture harts program output fault.ReadFault reported = absurd reported
check_no_picture harts program output (fault.Syntax line) reported = absurd reported
check_no_picture harts program output (fault.Refused line) reported = reported
check_no_picture harts program output fault.Memory reported = tt

-- It is refused to `tally`, or to `pipe`.
pub tally_no_picture : (harts : ℕ) (program : ProgramTree) (output : List ℕ) (why : Fault) → PrintsUntallied harts program why → ReportsNoPicture Tally harts program output why
tally_no_picture harts program output fault.Usage reported = absurd reported
tally_no_picture harts program output fault.TooLong reported = absurd reported
tally_no_picture harts program output fault.ReadFault reported = absurd reported
tally_no_picture harts program output (fault.Syntax line) reported = absurd reported
tally_no_picture harts program output (fault.Refused line) reported = reported
tally_no_picture harts program output fault.Memory reported = tt

pub pipe_no_picture : (harts : ℕ) (program : ProgramTree) (output : List ℕ) (why : Fault) → PrintsUnpiped harts program why → ReportsNoPicture Pipe harts program output why
pipe_no_picture harts program output fault.Usage reported = absurd reported
pipe_no_picture harts program output fault.TooLong reported = absurd reported
pipe_no_picture harts program output fault.ReadFault reported = absurd reported
pipe_no_picture harts program output (fault.Syntax line) reported = absurd reported
pipe_no_picture harts program output (fault.Refused line) reported = reported
pipe_no_picture harts program output fault.Memory reported = tt

-- The check refuses the program with rows to `tally`, or the program to `pipe`.
pub rows_no_picture : (harts : ℕ) (program rows : ProgramTree) (output : List ℕ) (why : Fault) → HasMeaningFor program harts → spread_fault_of program ≡ None
    → rows ≡ spread_of program → ReportsRefusal (IsUnaccepted harts rows) why → ReportsNoPicture Tally harts program output why
rows_no_picture harts program rows output why meaning shaped same reported =
    tally_no_picture harts program output why (rows_refused harts program rows why meaning shaped same reported)

pub unpiped_no_picture : (harts : ℕ) (program : ProgramTree) (output : List ℕ) (why : Fault) → ReportsRefusal (IsUnaccepted harts program) why → ReportsNoPicture Pipe harts program output why
unpiped_no_picture harts program output why reported = pipe_no_picture harts program output why (check_refused harts program why reported)

-- The output is refused by the program's plan.
output_no_picture : (runner : Runner) (harts : ℕ) (program : ProgramTree) (output : List ℕ) (why : Fault) → IsRunBy runner harts program
    → ReportsNoOutput (table_plan program harts) program output why → ReportsNoPicture runner harts program output why
output_no_picture runner harts program output fault.Usage run reported = absurd reported
output_no_picture runner harts program output fault.TooLong run reported = absurd reported
output_no_picture runner harts program output fault.ReadFault run reported = absurd reported
output_no_picture runner harts program output (fault.Syntax line) run reported = (run, reported)
output_no_picture runner harts program output (fault.Refused line) run reported = absurd reported
output_no_picture runner harts program output fault.Memory run reported = tt

pub right_plan : (plan own : Plan) (program : ProgramTree) (harts : ℕ) → plan ≡ own → own.parents ≡ plan_of program → own.harts ≡ harts → plan ≡ table_plan program harts
right_plan plan own program harts same parents count =
    same ∙ printed_plan own program parents ∙ ap (table_plan program) count

pub plan_no_picture : {X : Type 0} (result : Result X Fault) (runner : Runner) (harts : ℕ) (program : ProgramTree) (plan : Plan) (output : List ℕ) → plan ≡ table_plan program harts
    → IsRunBy runner harts program → IfErr result (ReportsNoOutput plan program output) → IfErr result (ReportsNoPicture runner harts program output)
plan_no_picture (Ok x) runner harts program plan output same run reported = tt
plan_no_picture (Err why) runner harts program plan output same run reported =
    output_no_picture runner harts program output why run (subst (λ (p : Plan). ReportsNoOutput p program output why) same reported)

pub plan_picture : {X : Type 0} (result : Result X Fault) (seen : X → Pictured) (form : Form) (teams : Kind) (harts : ℕ) (program : ProgramTree) (plan : Plan) (output : List ℕ) → plan ≡ table_plan program harts
    → IfOk result (λ x. picture_of form teams program plan output ≡ Ok (seen x)) → IfOk result (λ x. picture_of form teams program (table_plan program harts) output ≡ Ok (seen x))
plan_picture (Ok x) seen form teams harts program plan output same is = subst (λ (p : Plan). picture_of form teams program p output ≡ Ok (seen x)) same is
plan_picture (Err why) seen form teams harts program plan output same is = tt

pub plan_runs : {X : Type 0} (result : Result X Fault) (runner : Runner) (harts : ℕ) (program : ProgramTree) → IsRunBy runner harts program → OnOk result (IsRunBy runner harts program)
plan_runs (Ok x) runner harts program is = is
plan_runs (Err why) runner harts program is = tt

-- A fault of the output's text.
pub text_no_output : (plan : Plan) (program : ProgramTree) (output : List ℕ) (cause : TextFault) (why : Fault) → PrintsText cause why
    → ((cause ≡ text.Memory → ⊥) → audit_of plan (entered_of program) (array_text program (final_store program)) output ≡ Err cause) → ReportsNoOutput plan program output why
text_no_output plan program output cause fault.Usage reported found = absurd reported
text_no_output plan program output cause fault.TooLong reported found = absurd reported
text_no_output plan program output cause fault.ReadFault reported found = absurd reported
text_no_output plan program output cause (fault.Syntax line) reported found = record { fault = cause; found = found reported.0; real = reported.0; printed = reported.1 }
text_no_output plan program output cause (fault.Refused line) reported found = absurd reported
text_no_output plan program output cause fault.Memory reported found = tt

-- What reading found, if no allocation failed.
pub read_found : {A B : Type 0} (same : A → B) (wanted : Result B TextFault) (cause : TextFault) → Reads same wanted (Err cause) → (cause ≡ text.Memory → ⊥) → wanted ≡ Err cause
read_found same wanted (text.BadLine line) reads real = reads
read_found same wanted (text.BadNumber line) reads real = reads
read_found same wanted (text.WrongCount said found) reads real = reads
read_found same wanted text.Memory reads real = absurd (real refl)

-- ---- what a call of the program's picture returns, for the bytes that spell the program
module _ {X : Type 0} (seen : X → Pictured) (form : Form) (runner : Runner) (harts : ℕ) (first second : List ℕ) (program : ProgramTree)
    (short : length first ≤ 65536) (spelled : Spells first program) where
  pub drawn_of : (result : Result X Fault) → OnOk result (IsRunBy runner harts program)
      → IfOk result (λ x. picture_of form (teams_of runner) program (table_plan program harts) second ≡ Ok (seen x))
      → IfOk result (λ x. AreDrawn form runner harts (seen x) first second)
  drawn_of (Ok x) run drawn = record { program = program; input = record { short = short; spelled = spelled; run = run }; drawn = drawn }
  drawn_of (Err why) run drawn = tt

  pub not_drawn_of : (result : Result X Fault) → IfErr result (ReportsNoPicture runner harts program second) → IfErr result (HaveNoPicture runner harts first second)
  not_drawn_of (Ok x) reported = tt
  not_drawn_of (Err why) reported = program_no_picture runner harts first second program why short spelled reported
