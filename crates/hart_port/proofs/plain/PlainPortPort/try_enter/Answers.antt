-- No wish is ever made, so the word wants no hart.
use Rattle.std.proofs.Common.{◌∙◌, ap, sym, subst}
use Rattle.transfer_table.specs.Plan.{IsSite}
use Rattle.transfer_table.specs.Table.{row}
use Rattle.hart_port.specs.Words.{is_wanted}
use Rattle.hart_port.specs.PortView.{PortView, is_in}
use Rattle.hart_port.specs.Plain.{Plain}
use Rattle.hart_port.proofs.Views.{kept_view}
use Rattle.hart_port.proofs.Single.{unasked}
use Rattle.hart_port.proofs.Words.{is_wanted-site_word}
use Rattle.hart_port.proofs.plain.PlainPortPort.try_enter.Goals as goal

pub returns-clause-does : goal.returns-clause-does
returns-clause-does c =
    let l = c.self.inside.ledger in
    let is = c.self.invariant in
    let view = ap (λ (p : Plain). p.view) c.self.view_is in
    let site = subst (λ (v : PortView). IsSite v.plan c.args.site) (sym view) c.requires.known in
    let unwished = (unasked l.plan is.ledger.plan is.one l.entries l.state is.ledger.reached c.args.site site).1 in
    (view, ap is_wanted (c.site_word-shown.ensures.inside site) ∙ is_wanted-site_word (row l.state c.args.site) (is_in l.closing c.args.site) unwished)

pub returns-clause-kept : goal.returns-clause-kept
returns-clause-kept c = let f = c.self.inside in kept_view f.ledger f.closed.items f.empty.items f.gone.items c.self.invariant
