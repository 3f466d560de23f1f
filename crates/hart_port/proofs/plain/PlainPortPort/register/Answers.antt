-- A new site has no Register and no Request. A site that isn't new was registered, so its word is claimed.
use Rattle.std.proofs.Common.{◌≡◌, ◌≢◌, ◌∙◌, ap, sym, subst, length-set}
use Rattle.transfer_table.specs.Plan.{IsSite, parent}
use Rattle.transfer_table.specs.Table.{row}
use Rattle.transfer_table.specs.Entry.{registers, requested}
use Rattle.transfer_table.specs.declared.entry.Stage.TheVariants.{New}
use Rattle.hart_port.specs.PortView.{PortView, HasClaimed, registered, is_in, without}
use Rattle.hart_port.specs.Words.{is_claimed}
use Rattle.hart_port.specs.Ledger.{LedgerState}
use Rattle.hart_port.specs.Plain.{Plain, view_of}
use Rattle.hart_port.proofs.Views.{view-register, first, is_view, kept_view}
use Rattle.hart_port.proofs.Single.{unasked, unregistered_yet, stale}
use Rattle.hart_port.proofs.Words.{is_claimed-site_word}
use Rattle.hart_port.proofs.plain.PlainPortPort.register.Goals as goal
use Rattle.hart_port.proofs.plain.PlainPortPort.register.Goals.{in-New, in_default}

pub returns-then-not-matches-clause-does : goal.returns-then-not-matches-clause-does
returns-then-not-matches-clause-does c =
    let f = c.self.inside in
    let l = f.ledger in
    let is = c.self.invariant in
    let view = ap (λ (p : Plain). p.view) c.self.view_is in
    let site = subst (λ (v : PortView). IsSite v.plan c.args.site) (sym view) c.requires.known in
    let old : (row l.state c.args.site).stage ≢ New = λ new. elim c.match-matches.branch [ in-New w ↦ absurd (let no = c.if-not-matches.true in cc) | in_default w ↦ w.in_default.not-New (c.stage.ensures ∙ new) ] in (
      view,
      ap is_claimed (c.site_word-shown.ensures.inside site) ∙ is_claimed-site_word (row l.state c.args.site) (is_in l.closing c.args.site) old,
      λ _. subst (λ (v : PortView). HasClaimed v c.args.site) view (stale l.plan is.ledger.plan l.entries l.state is.ledger.reached c.args.site site old),
    )

pub returns-then-not-matches-clause-kept : goal.returns-then-not-matches-clause-kept
returns-then-not-matches-clause-kept c = let f = c.self.inside in kept_view f.ledger f.closed.items f.empty.items f.gone.items c.self.invariant

pub returns-clause-does : goal.returns-clause-does
returns-clause-does c =
    let f = c.self.inside in
    let l = f.ledger in
    let is = c.self.invariant in
    let s = c.args.site in
    let view = ap (λ (p : Plain). p.view) c.self.view_is in
    let site = subst (λ (v : PortView). IsSite v.plan s) (sym view) c.requires.known in
    let child = subst (λ (v : PortView). v.owner ≡ parent v.plan s) (sym view) c.requires.child in
    let new : (row l.state s).stage ≡ New = elim c.match-matches.branch [ in-New w ↦ cc | in_default w ↦ absurd (cc) ] in (
      ap (λ (x : LedgerState). view_of x (without f.closed.items s) (without f.empty.items s) f.gone.items) c.put_in.ensures.does
          ∙ view-register l f.closed.items f.empty.items f.gone.items s is.ledger (first l.plan is.one, site, child, new)
          ∙ ap (λ (v : PortView). registered v s) view,
      subst (λ (v : PortView). registers s v.mine ≡ 0) view (unregistered_yet l.plan is.ledger.plan l.entries l.state is.ledger.reached s site new),
      subst (λ (v : PortView). requested s v.mine ≡ 0) view (unasked l.plan is.ledger.plan is.one l.entries l.state is.ledger.reached s site).0,
    )

pub returns-clause-kept : goal.returns-clause-kept
returns-clause-kept c =
    let f = c.self.inside in
    let is = c.self.invariant in
    is_view f.ledger c.put_in.new.ledger (without f.closed.items c.args.site) (without f.empty.items c.args.site) f.gone.items c.put_in.ensures.kept (ap (λ (x : LedgerState). x.plan) c.put_in.ensures.does) is.one
    (length-set f.closed.items c.args.site _ ∙ is.closed_size) (length-set f.empty.items c.args.site _ ∙ is.empty_size) is.gone_size
