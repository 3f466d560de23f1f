-- The invariant of the port's type states that its view is valid.
use Rattle.std.proofs.Common.{ap, subst}
use Rattle.hart_port.specs.PortView.{IsPortView}
use Rattle.hart_port.specs.Plain.{Plain}
use Rattle.hart_port.proofs.Views.{kept_view}
use Rattle.hart_port.proofs.plain.PlainPortPort.hart.Goals as goal

pub returns-clause-kept : goal.returns-clause-kept
returns-clause-kept c = let f = c.self.inside in subst IsPortView (ap (λ (p : Plain). p.view) c.self.view_is) (kept_view f.ledger f.closed.items f.empty.items f.gone.items c.self.invariant)
