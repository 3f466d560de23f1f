use Rattle.std.proofs.Common.{◌≡◌, ◌<◌, ◌≤◌, ℕ, map, vec_len}
use Rattle.deque_rows.specs.Rows.{home_names, owner_log}
use Rattle.deque_rows.specs.Lines.{IsLine, less, standing}
use Rattle.deque_rows.proofs.making.line.Given as goal

-- The deques below this one have lent one end each; the others are unchanged.
abbrev pub invariant-loop-row : goal.invariant-loop-row
invariant-loop-row l = (vec_len l.ends ≡ l.row) × IsLine (map home_names l.initial.rows) l.ends.items
    × ((r : ℕ) → r < l.row → owner_log l.rows r ≡ less (owner_log l.initial.rows r))
    × ((r : ℕ) → l.row ≤ r → owner_log l.rows r ≡ owner_log l.initial.rows r)
    × (map home_names l.rows ≡ map home_names l.initial.rows)
    × (map standing l.rows ≡ map standing l.initial.rows)
