-- The conditions for a program to have a meaning, or to be accepted, for so many harts.
use Rattle.std.specs.Prelude.{ℕ, ◌≤◌, IsTrue}
use Rattle.transfer_table.specs.Plan.{most_entries}
use Rattle.array_tree.specs.Trees.{ProgramTree}
use Rattle.array_meaning.specs.Accepted.{IsAccepted, has_indices_inside}
use Rattle.array_meaning.specs.Plans.{sites_in}
use Rattle.disjoint_check.specs.LimitFault.{MeetsLimits, room_for}

-- A program has a meaning if it meets all conditions but the last, which is that pieces are apart.
pub record HasMeaningFor (program : ProgramTree) (harts : ℕ) : Type 0 where
  pub limits : MeetsLimits program harts
  pub indices : IsTrue (has_indices_inside program)

-- A program is accepted for so many harts if it meets all conditions.
pub record IsAcceptedFor (program : ProgramTree) (harts : ℕ) : Type 0 where
  pub accepted : IsAccepted program
  pub entries : room_for (sites_in program.body) harts ≤ most_entries
