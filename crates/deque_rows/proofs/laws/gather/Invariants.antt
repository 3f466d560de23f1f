use Rattle.std.proofs.Common.{◌≡◌, ◌<◌, ◌≤◌, ◌*◌, ◌+◌, ◌-◌, ℕ, map, length, get_or}
use Rattle.deque_rows.specs.declared.hart.HartRows.{HartRows}
use Rattle.deque_rows.specs.Rows.{home_names, owner_log, pass_logs, stolen_by}
use Rattle.deque_rows.specs.Lines.{gathered, standing}
use Rattle.deque_rows.proofs.laws.gather.Given as goal

-- The ends of the harts below this one are back.
abbrev pub invariant-loop-hart : goal.invariant-loop-hart
invariant-loop-hart l = (map home_names l.rows ≡ map home_names l.initial.rows)
    × ((r : ℕ) → r < 3 * length l.initial.rows → owner_log l.rows r ≡ gathered (owner_log l.initial.rows r) (64 - length l.initial.rows + l.hart) (stolen_by (map pass_logs l.initial.rows) r l.hart))
    × ((h : ℕ) (d : HartRows) → l.hart ≤ h → h < length l.initial.rows → standing (get_or l.rows h d) ≡ standing (get_or l.initial.rows h d))
