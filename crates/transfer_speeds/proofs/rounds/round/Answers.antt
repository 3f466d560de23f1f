use Rattle.std.proofs.Common.{◌∙◌, map, sym, ap, subst}
use Rattle.lent_board.specs.Seats.{AreSeats}
use Rattle.board_tests.proofs.SeatPorts.{seat_of, all_new}
use Rattle.transfer_speeds.proofs.rounds.round.Goals as goal

pub visit_at_once-requires-clause-new : goal.visit_at_once-requires-clause-new
visit_at_once-requires-clause-new g c κs within =
    let z = c.in_ok-board.board.table.shared.table_id in
    let are = ap (map seat_of) c.as_mut_slice.ensures.value ∙ c.in_ok-ports.ensures in
    all_new z c.args.plan.now c.as_mut_slice.result.now (subst (AreSeats z c.args.plan.now) (sym are) c.in_ok-board.ensures.seats.1)
