use Rattle.std.proofs.Common.{◌≡◌, ◌<◌, ℕ, List, map}
use Rattle.deque_rows.specs.Account.{Determines}
use Rattle.deque_rows.specs.Rows.{home_logs, owner_log}
use Rattle.deque_rows.proofs.laws.look_at_all.Given as goal

-- The deques below this one have been looked at.
abbrev pub invariant-loop-row : goal.invariant-loop-row
invariant-loop-row l = (map home_logs l.rows ≡ map home_logs l.initial.rows) × ((r : ℕ) → r < l.row → (items : List ℕ) × Determines (owner_log l.initial.rows r) items)
