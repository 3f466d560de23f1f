-- The hart isn't the home of the site that it is in.
use Rattle.std.proofs.Common.{◌≡◌, ◌<◌, ap, sym, subst, false, ℕ}
use Rattle.transfer_table.specs.Allowed.{IsAllowed}
use Rattle.transfer_table.specs.declared.entry.Entry.TheVariants.{Yield}
use Rattle.hart_port.specs.PortView.{PortView, is_in}
use Rattle.hart_port.specs.Ledger.{LedgerState}
use Rattle.hart_port.specs.Plain.{Plain}
use Rattle.hart_port.proofs.Views.{may_yield, is_view}
use Rattle.hart_port.proofs.plain.PlainPortPort.yield_hart.Goals as goal

pub put_in-requires-clause-allowed : goal.put_in-requires-clause-allowed
put_in-requires-clause-allowed c =
    let l = c.self.inside.ledger in
    let is = c.self.invariant in
    let view = ap (λ (p : Plain). p.view) c.self.view_is in
    let inside = subst (λ (v : PortView). 0 < v.owner) (sym view) c.requires.inside in
    let guest = subst (λ (v : PortView). is_in v.homes v.owner ≡ false) (sym view) c.requires.guest in
    subst (λ (s : ℕ). IsAllowed l.plan l.state (Yield 0 s)) (sym c.owner-site.ensures) (may_yield l is.ledger is.one inside guest)

pub returns-clause-kept : goal.returns-clause-kept
returns-clause-kept c =
    let f = c.self.inside in
    let is = c.self.invariant in
    is_view f.ledger c.put_in.new.ledger f.closed.items f.empty.items f.gone.items c.put_in.ensures.kept (ap (λ (x : LedgerState). x.plan) c.put_in.ensures.does) is.one is.closed_size is.empty_size is.gone_size
