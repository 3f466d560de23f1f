-- The seats of a board of either layout, as harts.
use Rattle.std.proofs.Common.{List, get_or}
use Rattle.atomic_table.specs.Seated.{TableId}
use Rattle.transfer_table.specs.Plan.{Plan}
use Rattle.board_rule.specs.declared.layout.Laid.{Ghosts}
use Rattle.lent_board.specs.declared.seat.HartSeat.{HartSeat}
use Rattle.lent_board.specs.declared.port.BoardPort.{BoardPort}
use Rattle.lent_board.specs.PortViews.{table_name, shared_view, port_view}
use Rattle.lent_board.specs.Seats.{AreSeats, AreAll}
use Rattle.lent_board.proofs.Names.{same_table}
use Rattle.site_steps.specs.declared.waiting.WaitingPort.{WaitingPort}
use Rattle.hart_loop.specs.Harts.{AreBack}
use Rattle.hart_loop.proofs.Boards.{AreNew, new_hart}

abbrev pub seat_of : {R L : Type 0} {laid : Ghosts L} → WaitingPort (BoardPort L laid) R → HartSeat
seat_of w = w.port.seat

-- New seats are new harts' seats.
pub all_new : (z : TableId) (p : Plan) (qs : List HartSeat) → AreSeats z p qs → AreNew port_view (table_name z) p qs
all_new z p qs seats h d below =
    let new = seats h d below in
    new_hart (table_name z) p h (port_view (get_or qs h d)) (λ i. shared_view (table_name (new.board i)) (new.view i))

-- The seats of all harts that returned are all seats of the board.
pub all_back : (z : TableId) (p : Plan) (qs : List HartSeat) → AreBack port_view (table_name z) p qs → AreAll z p qs
all_back z p qs back = record {
  count = back.count;
  boards = λ h d below. same_table _ z (back.each h d below).table;
  plans = λ h d below. (back.each h d below).plan;
  harts = λ h d below. (back.each h d below).hart;
}
