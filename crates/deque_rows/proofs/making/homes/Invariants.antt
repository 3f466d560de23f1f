use Rattle.std.proofs.Common.{◌≡◌, ◌<◌, ℕ, get_or, replicate, vec_len}
use Rattle.deque_rows.specs.declared.hart.HartRows.{HartRows}
use Rattle.deque_rows.specs.Rows.{rooms}
use Rattle.deque_rows.specs.Lines.{IsHome}
use Rattle.deque_rows.proofs.making.homes.Given as goal

-- The deques of the harts so far.
abbrev pub invariant-loop-hart : goal.invariant-loop-hart
invariant-loop-hart l = (vec_len l.rows ≡ l.hart) × ((h : ℕ) (d : HartRows) → h < l.hart → IsHome l.harts h (get_or l.rows.items h d))
    × ((h : ℕ) (d : HartRows) → h < l.hart → rooms (get_or l.rows.items h d) ≡ replicate 3 l.room)
