use Rattle.std.proofs.Common.{◌≡◌, ◌<◌, ◌*◌, ◌-◌, ℕ, true, map, get_or, length}
use Rattle.deque_rows.specs.declared.hart.HartRows.{HartRows}
use Rattle.deque_rows.specs.Account.{blank}
use Rattle.deque_rows.specs.Rows.{home_names, owner_log, rooms}
use Rattle.deque_rows.specs.Lines.{IsAt}
use Rattle.deque_rows.proofs.making.reach_all.Given as goal

-- Each deque has lent an end to each hart below this one.
abbrev pub invariant-loop-hart : goal.invariant-loop-hart
invariant-loop-hart l = (length l.rows ≡ l.harts) × ((r : ℕ) → r < 3 * l.harts → owner_log l.rows r ≡ blank (64 - l.hart) true)
    × ((h : ℕ) (d : HartRows) → h < l.harts → IsAt l.harts l.hart (map home_names l.rows) h (get_or l.rows h d))
    × (map rooms l.rows ≡ map rooms l.initial.rows)
