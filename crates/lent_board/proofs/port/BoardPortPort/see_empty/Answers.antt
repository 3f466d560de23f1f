use Rattle.std.proofs.Common.{◌≡◌, sym, ◌∙◌, subst}
use Rattle.hart_port.specs.PortView.{Sees}
use Rattle.lent_board.specs.PortViews.{table_name, shared_view, port_view}
use Rattle.lent_board.proofs.Ports.{sees}
use Rattle.lent_board.proofs.port.BoardPortPort.see_empty.Goals as goal

pub returns-clause-does : goal.returns-clause-does
returns-clause-does g c =
    let old = c.args.self.now.seat.seat in
    let new = c.see_empty.new.seat.seat in
    let same : new.table_id ≡ old.table_id = c.see_empty.ensures.of.board ∙ sym c.args.self.now.of_board.board in
    subst (λ z. Sees (port_view c.args.self.now.seat) c.see_empty.result (shared_view (table_name z) new.me.0)) (sym same)
    (sees g.L.Laid.layout (table_name old.table_id) old.me.0 new.me.0 c.see_empty.result c.see_empty.ensures.does)
