-- The entry is allowed: the only hart is alone in its site, and each child that was seen gone is gone.
use Rattle.std.proofs.Common.{◌∙◌, ap, sym, subst, length-set, ℕ}
use Rattle.transfer_table.specs.Allowed.{IsAllowed}
use Rattle.transfer_table.specs.declared.entry.Entry.TheVariants.{Unregister}
use Rattle.hart_port.specs.PortView.{MayUnregister, unregistered, without}
use Rattle.hart_port.specs.Ledger.{LedgerState}
use Rattle.hart_port.specs.Plain.{Plain, view_of}
use Rattle.hart_port.proofs.Views.{view-unregister, may_unregister, is_view}
use Rattle.hart_port.proofs.plain.PlainPortPort.unregister.Goals as goal

pub put_in-requires-clause-allowed : goal.put_in-requires-clause-allowed
put_in-requires-clause-allowed c =
    let f = c.self.inside in
    let l = f.ledger in
    let may = subst MayUnregister (sym (ap (λ (p : Plain). p.view) c.self.view_is)) c.requires in
    subst (λ (s : ℕ). IsAllowed l.plan l.state (Unregister 0 s)) (sym c.owner-site.ensures) (may_unregister l f.closed.items f.empty.items f.gone.items c.self.invariant may)

pub returns-clause-does : goal.returns-clause-does
returns-clause-does c =
    let f = c.self.inside in
    let l = f.ledger in
    let s = c.owner-site.result in
    let view = ap (λ (p : Plain). p.view) c.self.view_is in
    let may = subst MayUnregister (sym view) c.requires in
    let allowed = subst (λ (s : ℕ). IsAllowed l.plan l.state (Unregister 0 s)) (sym c.owner-site.ensures) (may_unregister l f.closed.items f.empty.items f.gone.items c.self.invariant may) in
    ap (λ (x : LedgerState). view_of x (without f.closed.items s) (without f.empty.items s) f.gone.items) c.put_in.ensures.does
    ∙ view-unregister l f.closed.items f.empty.items f.gone.items s c.self.invariant.ledger allowed c.owner-site.ensures
    ∙ ap unregistered view

pub returns-clause-kept : goal.returns-clause-kept
returns-clause-kept c =
    let f = c.self.inside in
    let is = c.self.invariant in
    let s = c.owner-site.result in
    is_view f.ledger c.put_in.new.ledger (without f.closed.items s) (without f.empty.items s) f.gone.items c.put_in.ensures.kept (ap (λ (x : LedgerState). x.plan) c.put_in.ensures.does) is.one
    (length-set f.closed.items s _ ∙ is.closed_size) (length-set f.empty.items s _ ∙ is.empty_size) is.gone_size
