-- A program that is accepted, with its plan, its number of pieces and the shapes of its sites.
use Rattle.std.specs.Prelude.{◌≡◌, ℕ, List, length}
use Rattle.array_tree.specs.declared.tree.Program.{Program}
use Rattle.array_tree.specs.Trees.{program_of}
use Rattle.array_meaning.specs.Accepted.{IsAccepted}
use Rattle.array_meaning.specs.Plans.{plan_of}
use Rattle.array_meaning.specs.Limits.{pieces_in}
use Rattle.transfer_table.specs.Plan.{Plan}
use Rattle.disjoint_check.specs.Shapes.{Shape, shapes_of}

-- The view that contracts have of an accepted program: the program, its plan, the number of its pieces, and the shape of each
-- site.
pub record AcceptedProgram : Type 0 where
  pub program : Program
  pub plan : Plan
  pub pieces : ℕ
  pub shapes : List Shape

-- The program meets the conditions, and its plan, pieces and shapes are right.
pub record IsAcceptedProgram (a : AcceptedProgram) : Type 0 where
  pub accepted : IsAccepted (program_of a.program)
  pub parents : a.plan.parents ≡ plan_of (program_of a.program)
  pub pieces : a.pieces ≡ pieces_in (program_of a.program).body
  pub shapes : a.shapes ≡ shapes_of (program_of a.program)
  pub sites : length a.shapes ≡ length a.plan.parents
