-- Why a program isn't piped: members overtake.
use Rattle.std.proofs.Common.{◌≡◌, ◌≢◌, ◌≤◌, ◌∙◌, ℕ, List, length, Some, None, sym, refl, inl, inr}
use Rattle.array_tree.specs.Trees.{ProgramTree}
use Rattle.array_lang.specs.Spelled.{Spells}
use Rattle.disjoint_check.specs.Meaning.{IsAcceptedFor}
use Rattle.disjoint_check.proofs.Accepting.{none_of_accepted}
use Rattle.phase_order.specs.Crossings.{HasNoCrossings}
use Rattle.pipe_walk.specs.FirstCrossing.{IsFaultOf}
use Rattle.pipe_walk.specs.declared.fault.PipeFault.{PipeFault}
use Rattle.pipe_walk.specs.declared.fault.PipeFault.TheVariants as pipe
use Rattle.lithe_call.specs.Faults.{IsUnaccepted, IsUnpiped, SpellUnpiped, IsNoOutput, PrintsUnpiped}
use Rattle.lithe_call.specs.Lines.{PrintsCrossing, ReportsRefusal}
use Rattle.lithe_call.specs.Pipelines.{IsPiped}
use Rattle.lithe_call.specs.declared.fault.Fault.{Fault}
use Rattle.command_words.specs.declared.command.Command.TheVariants.{Pipe}
use Rattle.error_text.specs.CrossingText.{crossing_text}
use Rattle.lithe_call.proofs.Causes.{refusal_for, refusal_no_output}

-- A program with a crossing isn't free of crossings.
crossed_uncrossed : (program : ProgramTree) (cause : PipeFault) → (cause ≡ pipe.Memory → ⊥) → IsFaultOf program cause → HasNoCrossings program → ⊥
crossed_uncrossed program (pipe.Crossing line cell) real is none = none is.number is.site is.here cell is.crosses
crossed_uncrossed program pipe.Memory real is none = real refl

unpiped_refused : (harts : ℕ) (program : ProgramTree) (line : List ℕ) → IsUnpiped harts program line → IsPiped harts program → ⊥
unpiped_refused harts program line (inl check) is =
    let none = none_of_accepted program harts is.accepted in
    let bad : None ≡ Some check.fault = sym none ∙ check.is in cc bad
unpiped_refused harts program line (inr crossed) is = crossed_uncrossed program crossed.fault crossed.real crossed.is is.uncrossed

pub unpiped_line : (harts : ℕ) (bytes : List ℕ) (program : ProgramTree) (why : Fault) → length bytes ≤ 65536 → Spells bytes program
    → PrintsUnpiped harts program why → IsNoOutput (Pipe harts) bytes why
unpiped_line harts bytes program why short spelled prints =
    refusal_no_output (Pipe harts) bytes why (refusal_for (IsUnpiped harts program) (SpellUnpiped harts bytes) why (λ line is. record {
      short = short;
      program = program;
      spelled = spelled;
      refused = unpiped_refused harts program line is;
      first = is;
    }) prints)

-- The check refuses the program.
pub check_refused : (harts : ℕ) (program : ProgramTree) (why : Fault) → ReportsRefusal (IsUnaccepted harts program) why → PrintsUnpiped harts program why
check_refused harts program why reports = refusal_for (IsUnaccepted harts program) (IsUnpiped harts program) why (λ line is. inl is) reports

pub check_no_output : (harts : ℕ) (bytes : List ℕ) (program : ProgramTree) (why : Fault) → length bytes ≤ 65536 → Spells bytes program
    → ReportsRefusal (IsUnaccepted harts program) why → IsNoOutput (Pipe harts) bytes why
check_no_output harts bytes program why short spelled reports = unpiped_line harts bytes program why short spelled (check_refused harts program why reports)

-- Two pieces of the program cross.
pub crossing_printed : (harts : ℕ) (program : ProgramTree) (cause : PipeFault) (why : Fault) → IsAcceptedFor program harts → PrintsCrossing program cause why
    → IsFaultOf program cause → PrintsUnpiped harts program why
crossing_printed harts program cause why accepted prints is =
    refusal_for (λ line. (cause ≢ pipe.Memory) × (line ≡ crossing_text program cause)) (IsUnpiped harts program) why
    (λ line said. inr (record { accepted = accepted; fault = cause; is = is; real = said.0; printed = said.1 })) prints
