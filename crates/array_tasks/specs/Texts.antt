-- The lines of the arrays of the program that a text spells.
use Rattle.std.specs.Prelude.{◌≡◌, ◌≢◌, ℕ, ◌≤◌, ◌<◌, List, length, Some}
use Rattle.array_tree.specs.Trees.{ProgramTree}
use Rattle.array_lang.specs.Spelled.{Spells, HasFault}
use Rattle.array_lang.specs.declared.fault.SyntaxFault.{SyntaxFault}
use Rattle.array_lang.specs.declared.fault.SyntaxFault.TheVariants as syntax
use Rattle.array_meaning.specs.Bounds.{most_bytes}
use Rattle.array_meaning.specs.Work.{final_store}
use Rattle.array_eval.specs.ArrayText.{array_text}
use Rattle.disjoint_check.specs.FaultOf.{check_fault_of}
use Rattle.disjoint_check.specs.Meaning.{IsAcceptedFor}
use Rattle.disjoint_check.specs.declared.fault.CheckFault.{CheckFault}
use Rattle.disjoint_check.specs.declared.fault.CheckFault.TheVariants as check
use Rattle.error_text.specs.SyntaxText.{syntax_text}
use Rattle.error_text.specs.RefusalText.{refusal_text}
use Rattle.array_tasks.specs.Errors.{IsBadCount}
use Rattle.array_tasks.specs.declared.error.TextError.{TextError}
use Rattle.array_tasks.specs.declared.error.TextError.TheVariants.{TooLong, Syntax, Refused, HartCount, OutOfMemory}

-- The text spells an accepted program, and the lines are those of the arrays that its one-thread meaning leaves.
pub record AreLinesOf (text lines : List ℕ) : Type 0 where
  pub short : length text ≤ most_bytes
  pub program : ProgramTree
  pub spelled : Spells text program
  pub accepted : IsAcceptedFor program 1
  pub same : lines ≡ array_text program (final_store program)

-- The text spells no program, and the line reports its first error, which isn't an allocation failure.
pub record IsNoProgram (text line : List ℕ) : Type 0 where
  pub nothing : (program : ProgramTree) → Spells text program → ⊥
  pub fault : SyntaxFault
  pub first : HasFault text fault
  pub real : fault ≢ syntax.Memory
  pub printed : line ≡ syntax_text fault

-- The program isn't accepted, and the line reports the first condition that it fails, which isn't an allocation failure.
pub record IsUnaccepted (program : ProgramTree) (line : List ℕ) : Type 0 where
  pub fault : CheckFault
  pub first : check_fault_of program 1 ≡ Some fault
  pub real : fault ≢ check.Memory
  pub printed : line ≡ refusal_text program fault

-- The cause of an error for a text on so many harts. An allocation failure has no cause.
abbrev pub HasNoLines : ℕ → List ℕ → TextError → Type 0
HasNoLines harts text TooLong = most_bytes < length text
HasNoLines harts text (Syntax line) = IsNoProgram text line.items
HasNoLines harts text (Refused line) =
    (program : ProgramTree) × Spells text program × IsUnaccepted program line.items
HasNoLines harts text (HartCount n) = IsBadCount harts n
HasNoLines harts text OutOfMemory = Unit {0}

-- The error reports the text's first error, or an allocation failed.
abbrev pub PrintsSyntax : SyntaxFault → TextError → Type 0
PrintsSyntax fault (Syntax line) = (fault ≢ syntax.Memory) × (line.items ≡ syntax_text fault)
PrintsSyntax fault OutOfMemory = Unit {0}
PrintsSyntax fault error = ⊥

-- The error reports why the program isn't accepted, or an allocation failed.
abbrev pub PrintsRefusal : ProgramTree → CheckFault → TextError → Type 0
PrintsRefusal program fault (Refused line) =
    (fault ≢ check.Memory) × (line.items ≡ refusal_text program fault)
PrintsRefusal program fault OutOfMemory = Unit {0}
PrintsRefusal program fault error = ⊥

-- The error names the first condition that the program fails, or an allocation failed.
abbrev pub NamesRefusal : ProgramTree → TextError → Type 0
NamesRefusal program (Refused line) = IsUnaccepted program line.items
NamesRefusal program OutOfMemory = Unit {0}
NamesRefusal program error = ⊥
