-- The sets keep their sizes.
use Rattle.std.proofs.Common.{◌∙◌, length-set, refl}
use Rattle.hart_port.specs.PortView.{with_site}
use Rattle.hart_port.proofs.Views.{is_view}
use Rattle.hart_port.proofs.plain.PlainPortPort.see_empty.Goals as goal

pub returns-clause-kept : goal.returns-clause-kept
returns-clause-kept c =
    let f = c.self.inside in
    let is = c.self.invariant in
    is_view f.ledger f.ledger f.closed.items (with_site f.empty.items c.owner-site.result) f.gone.items is.ledger refl is.one is.closed_size (length-set f.empty.items c.owner-site.result _ ∙ is.empty_size) is.gone_size
