-- The input of an audit, and its verdict.
use Rattle.std.specs.Prelude.{◌≡◌, ℕ, List, Some, Result, Ok}
use Rattle.array_tree.specs.Trees.{ProgramTree}
use Rattle.array_meaning.specs.Work.{final_store}
use Rattle.array_meaning.specs.Entered.{entered_of}
use Rattle.array_eval.specs.ArrayText.{array_text}
use Rattle.journal_text.specs.declared.fault.TextFault.{TextFault}
use Rattle.run_audit.specs.Parts.{parts_of}
use Rattle.run_audit.specs.Audit.{audit_of}
use Rattle.run_audit.specs.declared.verdict.Verdict.{Verdict}
use Rattle.run_audit.specs.declared.verdict.Verdict.TheVariants as verdict
use Rattle.lithe_call.specs.Programs.{SpellAccepted, table_plan}
use Rattle.lithe_call.specs.declared.answer.Ending.{Ending}
use Rattle.lithe_call.specs.declared.answer.Ending.TheVariants as ending
use Rattle.lithe_call.specs.declared.status.Status.{Status}
use Rattle.lithe_call.specs.declared.status.Status.TheVariants as status

-- These bytes have two parts, for which `AreSo` holds.
pub record HasParts (AreSo : List ℕ → List ℕ → Type 0) (bytes : List ℕ) : Type 0 where
  pub first : List ℕ
  pub second : List ℕ
  pub parts : parts_of bytes ≡ Some (first, second)
  pub are : AreSo first second

-- The verdict of an audit of an output of the program's run on so many harts.
abbrev pub found_in : ℕ → ProgramTree → List ℕ → Result Verdict TextFault
found_in harts program output =
    audit_of (table_plan program harts) (entered_of program)
    (array_text program (final_store program)) output

-- The first part spells an accepted program, and `verdict` is the verdict on the second part.
pub record AreFound (harts : ℕ) (verdict : Verdict) (first second : List ℕ) : Type 0 where
  pub program : ProgramTree
  pub input : SpellAccepted harts first program
  pub found : found_in harts program second ≡ Ok verdict

-- These bytes have this verdict.
abbrev pub HasVerdict : ℕ → List ℕ → Verdict → Type 0
HasVerdict harts bytes verdict = HasParts (AreFound harts verdict) bytes

-- The status of a verdict.
abbrev pub status_by : Verdict → Status
status_by (verdict.Legal entries) = status.Done
status_by (verdict.Differs line) = status.Illegal
status_by (verdict.Illegal fault) = status.Illegal

-- The status of a command, by its ending.
abbrev pub status_of_ending : Ending → Status
status_of_ending ending.Written = status.Done
status_of_ending ending.Illegal = status.Illegal
