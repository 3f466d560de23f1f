use Rattle.std.proofs.Common.{◌≡◌, ◌≤◌, ℕ, true, length, take, vec_len}
use Rattle.hart_port.specs.PortView.{is_in}
use Rattle.lent_board.specs.Seats.{HasFrom}
use Rattle.lent_board.proofs.ending.gather_all.Given as goal

-- The remaining seats are the first ones; the others are joined in.
abbrev pub invariant-loop-other : goal.invariant-loop-other
invariant-loop-other g l = (l.first.seat.table_id ≡ l.board.table.shared.table_id) × (l.first.seat.me.0.hart ≡ 0) × (l.first.seat.me.0.plan ≡ l.initial.first.seat.me.0.plan) × ((l.first.seat.me.0.mine ≡ l.initial.first.seat.me.0.mine) × (l.first.seat.me.0.places ≡ l.initial.first.seat.me.0.places))
    × (l.seats.items ≡ take (vec_len l.seats) l.initial.seats.items) × (vec_len l.seats ≤ length l.initial.seats.items) × HasFrom l.first.seat.me.0 l.initial.seats.items (vec_len l.seats)
    × ((x : ℕ) → is_in l.initial.first.seat.me.0.marks.gone x ≡ true → is_in l.first.seat.me.0.marks.gone x ≡ true)

abbrev pub decreases-loop-other : goal.decreases-loop-other
decreases-loop-other g l = vec_len l.seats
