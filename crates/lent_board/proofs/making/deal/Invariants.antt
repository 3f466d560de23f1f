use Rattle.std.proofs.Common.{◌≡◌, vec_len}
use Rattle.lent_board.specs.Seats.{AreSeats}
use Rattle.lent_board.proofs.making.deal.Given as goal

-- The seats of the harts below this one.
abbrev pub invariant-loop-hart : goal.invariant-loop-hart
invariant-loop-hart g l = (vec_len l.seats ≡ l.hart) × AreSeats l.board.table.shared.table_id l.board.plan l.seats.items
