use Rattle.std.proofs.Common.{◌≡◌, ◌∙◌, List, length, map, sym, ap, subst}
use Rattle.std.proofs.lemmas.List.{length-map, with_items_is}
use Rattle.transfer_table.specs.Plan.{Plan}
use Rattle.lent_board.specs.declared.seat.HartSeat.{HartSeat}
use Rattle.lent_board.specs.Seats.{AreSeats, AreAll}
use Rattle.board_tests.proofs.SeatPorts.{seat_of, all_new, all_back}
use Rattle.board_tests.proofs.threads.roamed.Goals as goal

pub roam-requires-clause-new : goal.roam-requires-clause-new
roam-requires-clause-new g c κs within =
    let z = c.in_ok-board.board.table.shared.table_id in
    let are = ap (map seat_of) c.as_mut_slice.ensures.value ∙ c.in_ok-ports.ensures in
    all_new z c.args.plan.now c.as_mut_slice.result.now (subst (AreSeats z c.args.plan.now) (sym are) c.in_ok-board.ensures.seats.1)

pub close-requires : goal.close-requires
close-requires g c =
    let z = c.in_ok-board.board.table.shared.table_id in
    let p = c.args.plan.now in
    let xs = c.as_mut_slice.result.now in
    let ys = c.roam.new.ports in
    let are = ap (map seat_of) c.as_mut_slice.ensures.value ∙ c.in_ok-ports.ensures in
    let many : length xs ≡ p.harts = sym (length-map xs seat_of) ∙ ap length are ∙ sym c.in_ok-board.seats.ok.0 ∙ c.in_ok-board.ensures.seats.0 in
    let back = ap (map seat_of) (with_items_is c.in_ok-ports.ports ys (c.roam.ensures.count ∙ c.as_mut_slice.ensures.len)) in
    let all = all_back z p xs ys (subst (AreSeats z p) (sym are) c.in_ok-board.ensures.seats.1) many c.roam.ensures.count c.roam.ensures.same in
    subst (λ (qs : List HartSeat). AreAll z c.in_ok-board.board.plan qs) (sym (c.in_ok-seats.ensures ∙ back))
    (subst (λ (q : Plan). AreAll z q (map seat_of ys)) (sym c.in_ok-board.ensures.plan) all)
