use Rattle.std.proofs.Common.{◌≡◌, ◌+◌, ◌<◌, ℕ, slice_index}
use Rattle.loop_team.proofs.rows.rows_fit.Given as goal

-- The claim counters so far have that many members.
abbrev pub invariant-loop-phase : goal.invariant-loop-phase
invariant-loop-phase l = (k : ℕ) → k < l.phase → slice_index l.counts (l.first + k) ≡ l.members
