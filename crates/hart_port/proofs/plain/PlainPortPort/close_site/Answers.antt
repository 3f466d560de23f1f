-- The owner is a site of the plan, since the hart is its home.
use Rattle.std.proofs.Common.{◌≡◌, ◌∙◌, ℕ, ap, sym, subst, true, length-set, arith}
use Rattle.transfer_table.specs.Plan.{IsSite}
use Rattle.hart_port.specs.PortView.{PortView, is_in, with_site}
use Rattle.hart_port.specs.Ledger.{LedgerState}
use Rattle.hart_port.specs.Plain.{Plain}
use Rattle.hart_port.proofs.Views.{owner_home, is_view}
use Rattle.hart_port.proofs.plain.PlainPortPort.close_site.Goals as goal

pub index_mut-requires : goal.index_mut-requires
index_mut-requires c =
    let l = c.self.inside.ledger in
    let is = c.self.invariant in
    let home = subst (λ (v : PortView). is_in v.homes v.owner ≡ true) (sym (ap (λ (p : Plain). p.view) c.self.view_is)) c.requires.home in
    let high = (owner_home l is.ledger is.one home).0.1 in
    let size = is.closed_size in
    let same = c.owner-site.ensures in
    omega arith

pub returns-clause-kept : goal.returns-clause-kept
returns-clause-kept c =
    let f = c.self.inside in
    let l = f.ledger in
    let is = c.self.invariant in
    let home = subst (λ (v : PortView). is_in v.homes v.owner ≡ true) (sym (ap (λ (p : Plain). p.view) c.self.view_is)) c.requires.home in
    let site = subst (λ (s : ℕ). IsSite l.plan s) (sym c.owner-site.ensures) (owner_home l is.ledger is.one home).0 in
    is_view l c.mark.new.self (with_site f.closed.items c.owner-site.result) f.empty.items f.gone.items c.mark.ensures.kept (ap (λ (x : LedgerState). x.plan) (c.mark.ensures.marked site)) is.one
    (length-set f.closed.items c.owner-site.result _ ∙ is.closed_size) is.empty_size is.gone_size

pub returns-clause-closing : goal.returns-clause-closing
returns-clause-closing c =
    let l = c.self.inside.ledger in
    let is = c.self.invariant in
    let home = subst (λ (v : PortView). is_in v.homes v.owner ≡ true) (sym (ap (λ (p : Plain). p.view) c.self.view_is)) c.requires.home in
    let site = subst (λ (s : ℕ). IsSite l.plan s) (sym c.owner-site.ensures) (owner_home l is.ledger is.one home).0 in
    ap (λ (x : LedgerState). x.closing) (c.mark.ensures.marked site) ∙ ap (with_site l.closing) c.owner-site.ensures ∙ ap (λ (p : Plain). with_site p.closing p.view.owner) c.self.view_is
