use Rattle.std.proofs.Common.{◌≡◌, ◌≤◌, ℕ}
use Rattle.transfer_table.specs.Plan.{parent}
use Rattle.transfer_speeds.proofs.visits.is_flat.Given as goal

-- The sites so far are children of the base.
abbrev pub invariant-loop-before : goal.invariant-loop-before
invariant-loop-before l = (c : ℕ) → 1 ≤ c → c ≤ l.before → parent l.plan c ≡ 0
