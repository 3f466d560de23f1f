use Rattle.std.proofs.Common.{◌≡◌, ◌∙◌, length, sym, ap, subst}
use Rattle.array_tree.specs.Trees.{program_of}
use Rattle.transfer_table.specs.Plan.{Plan}
use Rattle.transfer_table.proofs.Bounds.{few_entries}
use Rattle.board_rule.specs.Layouts.{HasRoom}
use Rattle.lent_board.specs.PortViews.{port_view, table_name}
use Rattle.lent_board.specs.Seats.{AreSeats}
use Rattle.hart_loop.specs.Harts.{AllStart}
use Rattle.hart_loop.proofs.Boards.{ports_start, ports_back}
use Rattle.hart_loop.proofs.Seats.{seat_of, all_new, all_back}
use Rattle.hart_loop.proofs.on_ports.on_board.Goals as goal

pub run_ports-requires-clause-starts : goal.run_ports-requires-clause-starts
run_ports-requires-clause-starts g c κs within =
    let z = c.in_ok-board.board.table.shared.table_id in
    let p = c.plan.result.now in
    let qs = c.in_ok-board.seats.items in
    let xs = c.in_ok-ports.ports.items in
    subst (λ (q : Plan). AllStart (λ port. port_view (seat_of port)) q xs) (c.plan.ensures.same ∙ sym c.requires.tree)
    (ports_start port_view seat_of (table_name z) p qs xs (all_new z p qs c.in_ok-board.ensures.seats.1) c.in_ok-ports.ensures)

pub close-requires : goal.close-requires
close-requires g c =
    let z = c.in_ok-board.board.table.shared.table_id in
    let p = c.in_ok-board.board.plan in
    let qs = c.in_ok-board.seats.items in
    let ws = c.in_ok-seats.seats.items in
    let new = subst (λ (q : Plan). AreSeats z q qs) (sym c.in_ok-board.ensures.plan) c.in_ok-board.ensures.seats.1 in
    let count : length qs ≡ p.harts = sym c.in_ok-board.seats.ok.0 ∙ c.in_ok-board.ensures.seats.0 ∙ ap (λ (q : Plan). q.harts) (sym c.in_ok-board.ensures.plan) in
    all_back z p ws (ports_back port_view seat_of (table_name z) p qs ws c.in_ok-ports.ports.items c.in_ok-piece.ports.items count (all_new z p qs new)
    c.in_ok-ports.ensures c.in_ok-seats.ensures c.in_ok-piece.ensures.same)

pub new-requires : goal.new-requires
new-requires g c = record { few_harts = subst (λ (p : Plan). HasRoom g.L.Laid.layout p.harts) (sym c.plan.ensures.same) c.requires.few_harts }

pub returns-in-Ok-clause-store : goal.returns-in-Ok-clause-store
returns-in-Ok-clause-store g c = c.in_ok-store.ensures (program_of c.args.accepted.now.program) c.in_ok-piece.ensures.piece

pub returns-in-Ok-clause-short : goal.returns-in-Ok-clause-short
returns-in-Ok-clause-short g c =
    let journal = c.in-Ok.ensures.journal in
    few_entries c.in_ok-board.board.plan c.in_ok-board.board.is_plan c.in-Ok.closed journal.table journal.legal
