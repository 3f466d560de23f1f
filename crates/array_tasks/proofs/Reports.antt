-- The errors of a text, from the errors of its steps.
use Rattle.std.proofs.Common.{◌≡◌, ◌⊎◌, ℕ, List, Some, Err, inl, inr}
use Rattle.array_tree.specs.Trees.{ProgramTree}
use Rattle.array_lang.specs.Spelled.{Spells, HasFault, IsRead}
use Rattle.array_lang.specs.declared.fault.SyntaxFault.{SyntaxFault}
use Rattle.disjoint_check.specs.FaultOf.{check_fault_of}
use Rattle.disjoint_check.specs.declared.fault.CheckFault.{CheckFault}
use Rattle.disjoint_check.specs.declared.fault.CheckFault.TheVariants as check
use Rattle.array_tasks.specs.Errors.{IsNotRun, is_as_run}
use Rattle.array_tasks.specs.Texts.{HasNoLines, PrintsSyntax, PrintsRefusal, NamesRefusal}
use Rattle.array_tasks.specs.declared.error.ProgramError.{ProgramError}
use Rattle.array_tasks.specs.declared.error.ProgramError.TheVariants as program
use Rattle.array_tasks.specs.declared.error.TextError.{TextError}
use Rattle.array_tasks.specs.declared.error.TextError.TheVariants.{TooLong, Syntax, Refused, HartCount, OutOfMemory}

-- A line of the first error of a text that spells no program.
pub syntax_reported : (text : List ℕ) (fault : SyntaxFault) (error : TextError) (harts : ℕ) → PrintsSyntax fault error
    → ((p : ProgramTree) → Spells text p → IsRead p (Err fault)) → HasFault text fault → HasNoLines harts text error
syntax_reported text fault TooLong harts prints only first = absurd prints
syntax_reported text fault (Syntax line) harts prints only first =
    record { nothing = λ p spelled. prints.0 (only p spelled); fault = fault; first = first; real = prints.0; printed = prints.1 }
syntax_reported text fault (Refused line) harts prints only first = absurd prints
syntax_reported text fault (HartCount n) harts prints only first = absurd prints
syntax_reported text fault OutOfMemory harts prints only first = tt

-- A line of the first condition that a program fails.
pub refusal_named : (tree : ProgramTree) (fault : CheckFault) (error : TextError) → PrintsRefusal tree fault error
    → (fault ≡ check.Memory) ⊎ (check_fault_of tree 1 ≡ Some fault) → NamesRefusal tree error
refusal_named tree fault TooLong prints first = absurd prints
refusal_named tree fault (Syntax line) prints first = absurd prints
refusal_named tree fault (Refused line) prints (inl memory) = absurd (prints.0 memory)
refusal_named tree fault (Refused line) prints (inr first) = record { fault = fault; first = first; real = prints.0; printed = prints.1 }
refusal_named tree fault (HartCount n) prints first = absurd prints
refusal_named tree fault OutOfMemory prints first = tt

-- The error of a text whose program isn't accepted.
pub refusal_reported : (text : List ℕ) (tree : ProgramTree) (error : TextError) (harts : ℕ) → NamesRefusal tree error → Spells text tree → HasNoLines harts text error
refusal_reported text tree TooLong harts names spelled = absurd names
refusal_reported text tree (Syntax line) harts names spelled = absurd names
refusal_reported text tree (Refused line) harts names spelled = (tree, spelled, names)
refusal_reported text tree (HartCount n) harts names spelled = absurd names
refusal_reported text tree OutOfMemory harts names spelled = tt

-- The error of a run, as an error for the text.
pub run_reported : (text : List ℕ) (cause : ProgramError) (error : TextError) (harts : ℕ) → is_as_run cause error → IsNotRun harts cause → HasNoLines harts text error
run_reported text (program.HartCount n) error harts is cause = rw is cause
run_reported text program.OutOfMemory error harts is cause = rw is tt
