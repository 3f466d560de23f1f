-- The claim counters of a team.
use Rattle.std.specs.Prelude.{◌≡◌, ℕ, ◌+◌, ◌<◌, ◌≤◌, List, length, slice_index}
use Rattle.step_eval.specs.Nests.{NestedParts}
use Rattle.loop_team.specs.Teams.{phases_in, members_in}

-- From this counter on, there is a counter for each phase of the construct, with as many members as the construct has.
pub record RowsFit (counts : List ℕ) (row : ℕ) (nested : NestedParts) : Type 0 where
  pub there : row + phases_in nested ≤ length counts
  pub same : (phase : ℕ) → phase < phases_in nested
      → slice_index counts (row + phase) ≡ members_in nested
