-- A site that was unregistered is gone; the sets keep their sizes.
use Rattle.std.proofs.Common.{◌∙◌, ap, sym, subst, length-set, refl}
use Rattle.transfer_table.specs.Plan.{IsSite}
use Rattle.transfer_table.specs.Table.{row}
use Rattle.hart_port.specs.PortView.{PortView, IsPortView, HasEnded, with_site, without}
use Rattle.hart_port.specs.Plain.{Plain}
use Rattle.hart_port.proofs.Single.{went}
use Rattle.hart_port.proofs.Views.{kept_view, is_view}
use Rattle.hart_port.proofs.plain.PlainPortPort.see_gone.Goals as goal

pub returns-then-not-is_gone-clause-alone : goal.returns-then-not-is_gone-clause-alone
returns-then-not-is_gone-clause-alone c only some =
    let l = c.self.inside.ledger in
    let is = c.self.invariant in
    let back = sym (ap (λ (p : Plain). p.view) c.self.view_is) in
    let site = subst (λ (v : PortView). IsSite v.plan c.args.site) back c.requires in
    let gone = went l.plan is.ledger.plan l.entries l.state is.ledger.reached c.args.site site (subst (λ (v : PortView). HasEnded v c.args.site) back some) in
    let here = sym (ap (λ (p : Plain). (row p.state c.args.site).stage) c.self.view_is) ∙ gone in
    let yes = c.is_gone.ensures.1 here in
    let no = c.if-not-is_gone.true in
    cc

pub returns-then-not-is_gone-clause-kept : goal.returns-then-not-is_gone-clause-kept
returns-then-not-is_gone-clause-kept c = let f = c.self.inside in subst IsPortView (ap (λ (p : Plain). p.view) c.self.view_is) (kept_view f.ledger f.closed.items f.empty.items f.gone.items c.self.invariant)

pub returns-then-not-index-clause-kept : goal.returns-then-not-index-clause-kept
returns-then-not-index-clause-kept c =
    let f = c.self.inside in
    let is = c.self.invariant in
    is_view f.ledger f.ledger f.closed.items (without f.empty.items c.parent-parent.result) (with_site f.gone.items c.args.site) is.ledger refl is.one
    is.closed_size (length-set f.empty.items c.parent-parent.result _ ∙ is.empty_size) (length-set f.gone.items c.args.site _ ∙ is.gone_size)

pub returns-else-not-index-clause-kept : goal.returns-else-not-index-clause-kept
returns-else-not-index-clause-kept c = let f = c.self.inside in subst IsPortView (ap (λ (p : Plain). p.view) c.self.view_is) (kept_view f.ledger f.closed.items f.empty.items f.gone.items c.self.invariant)
