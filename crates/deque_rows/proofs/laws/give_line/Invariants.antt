use Rattle.std.proofs.Common.{◌≡◌, ◌<◌, ◌≤◌, ◌*◌, ℕ, map, length, get_or, vec_len}
use Rattle.deque_rows.specs.declared.ends.StealingEnd.{StealingEnd}
use Rattle.deque_rows.specs.Account.{joined}
use Rattle.deque_rows.specs.Rows.{home_names, owner_log}
use Rattle.deque_rows.specs.Lines.{end_log, standing}
use Rattle.deque_rows.proofs.laws.give_line.Given as goal

-- The ends from this one on are back.
abbrev pub invariant-loop-end : goal.invariant-loop-end
invariant-loop-end l = ((r : ℕ) (d : StealingEnd) → r < vec_len l.ends → get_or l.ends.items r d ≡ get_or l.initial.ends.items r d) × (vec_len l.ends ≤ 3 * length l.initial.rows)
    × ((r : ℕ) → r < vec_len l.ends → owner_log l.rows r ≡ owner_log l.initial.rows r)
    × ((r : ℕ) (d : StealingEnd) → vec_len l.ends ≤ r → r < 3 * length l.initial.rows → owner_log l.rows r ≡ joined (owner_log l.initial.rows r) (end_log (get_or l.initial.ends.items r d)))
    × (map home_names l.rows ≡ map home_names l.initial.rows)
    × (map standing l.rows ≡ map standing l.initial.rows)

abbrev pub decreases-loop-end : goal.decreases-loop-end
decreases-loop-end l = vec_len l.ends
