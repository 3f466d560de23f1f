use Rattle.std.proofs.Common.{◌≡◌, ◌≤◌, [], length, take, vec_len}
use Rattle.open_board.specs.Of.{IsOf}
use Rattle.open_board.specs.Ending.{HasFrom}
use Rattle.open_board.proofs.ending.gather_all.Given as goal

-- The remaining seats are the first ones; the others are joined in.
abbrev pub invariant-loop-other : goal.invariant-loop-other
invariant-loop-other l = IsOf l.board l.first × (l.first.seat.me.0.hart ≡ 0) × (l.first.seat.me.0.stack ≡ []) × (l.first.seat.me.0.mine ≡ l.initial.first.seat.me.0.mine)
    × (l.seats.items ≡ take (vec_len l.seats) l.initial.seats.items) × (vec_len l.seats ≤ length l.initial.seats.items) × HasFrom l.first.seat.me.0 l.initial.seats.items (vec_len l.seats)

abbrev pub decreases-loop-other : goal.decreases-loop-other
decreases-loop-other l = vec_len l.seats
