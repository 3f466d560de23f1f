-- Programs that are accepted, and their plans; the text of a generated program.
use Rattle.std.specs.Prelude.{ℕ, ◌≤◌, List, length}
use Rattle.transfer_table.specs.Plan.{Plan}
use Rattle.array_tree.specs.Trees.{ProgramTree}
use Rattle.array_lang.specs.Spelled.{Spells}
use Rattle.array_print.specs.Texts.{printed}
use Rattle.array_meaning.specs.Bounds.{most_bytes}
use Rattle.array_meaning.specs.Plans.{plan_of}
use Rattle.disjoint_check.specs.Meaning.{IsAcceptedFor}
use Rattle.program_maker.specs.Made.{made_program}

-- The plan of a program for so many harts.
abbrev pub table_plan : ProgramTree → ℕ → Plan
table_plan program harts = record { harts = harts; parents = plan_of program }

-- The printed text of the program that `make` generates.
abbrev pub made_text : ℕ → ℕ → List ℕ
made_text seed size = printed (made_program seed size)

-- These bytes spell a program that is accepted for so many harts.
pub record SpellAccepted (harts : ℕ) (bytes : List ℕ) (program : ProgramTree) : Type 0 where
  pub short : length bytes ≤ most_bytes
  pub spelled : Spells bytes program
  pub accepted : IsAcceptedFor program harts
