use Rattle.std.proofs.Common.{◌≡◌, ◌<◌, sym, ap, ◌∙◌, subst, inl, arith}
use Rattle.transfer_table.specs.Entry.{unregisters}
use Rattle.transfer_table.specs.Plan.{IsSite, IsPlan, parent, Plan}
use Rattle.hart_port.specs.PortView.{PortView, registered}
use Rattle.site_steps.specs.Back.{IsBack}
use Rattle.site_steps.specs.Children.{NextChild}
use Rattle.site_steps.specs.Visits.{ChildrenOverBefore, IsChildIf}
use Rattle.site_steps.proofs.Children.{next_child}
use Rattle.site_steps.specs.Sweeps.{AreSweptBefore}
use Rattle.site_steps.proofs.Backs.{back_refl, back_then, back_over, over_more, refused_over}
use Rattle.site_steps.proofs.Sweeps.{swept_more, swept_site}
use Rattle.site_steps.proofs.sweeping.+sweep.Goals as goal

pub sweep_children-children-preserved : goal.sweep_children-children-preserved
sweep_children-children-preserved g t c =
    let start = g.P.Port.seen c.args.port.now in
    let h = g.P.Port.seen c.children.port in
    let a = g.P.Port.seen c.sweep_site.new.port in
    let back = c.children.invariant.back in
    let child = subst (IsChildIf c.args.tree.now start.owner) c.in-Some.is c.children.invariant.child in
    let over = subst (ChildrenOverBefore h) c.in-Some.is c.children.invariant.over in
    let plan : c.args.tree.now ≡ h.plan = sym (back.plan ∙ c.requires.plan) in
    let next : NextChild c.args.tree.now start.owner c.in-Some.child c.next_sibling-next.result =
    subst (λ o. NextChild c.args.tree.now o c.in-Some.child c.next_sibling-next.result) child.1 c.next_sibling-next.ensures in
    let here : NextChild h.plan h.owner c.in-Some.child c.next_sibling-next.result =
    subst (λ o. NextChild h.plan o c.in-Some.child c.next_sibling-next.result) (sym back.owner)
    (subst (λ (p : Plan). NextChild p start.owner c.in-Some.child c.next_sibling-next.result) plan next) in
    record {
      back = back_then start h a back c.sweep_site.ensures.back;
      over = over_more h a c.in-Some.child c.next_sibling-next.result c.sweep_site.ensures.back over here c.sweep_site.ensures.over;
      count = omega (arith, c.children.invariant.count, c.sweep_site.ensures.count);
      swept = swept_more g.P.Port.register_gives start h a (g.P.Port.refused c.args.port.now) (g.P.Port.refused c.children.port) (g.P.Port.refused c.sweep_site.new.port) c.in-Some.child c.next_sibling-next.result
          (back_refl start c.requires.inner) (back_refl a c.sweep_site.ensures.back.inner) back c.sweep_site.ensures.back c.children.invariant.count c.sweep_site.ensures.count
          (subst (AreSweptBefore g.P.Port.register_gives start (g.P.Port.refused c.args.port.now) h (g.P.Port.refused c.children.port)) c.in-Some.is c.children.invariant.swept)
          (subst (λ (p : Plan). NextChild p start.owner c.in-Some.child c.next_sibling-next.result) (sym c.requires.plan) next) c.sweep_site.ensures.swept;
      child = next_child c.args.tree.now start.owner c.in-Some.child c.next_sibling-next.result next;
    }

pub sweep_site-returns-in-Err-clause-over : goal.sweep_site-returns-in-Err-clause-over
sweep_site-returns-in-Err-clause-over g t c =
    let h = g.P.Port.seen c.args.port.now in
    let a = g.P.Port.seen c.register.new.self in
    let s = c.args.site in
    let site = subst (λ p. IsSite p s) (sym c.requires.plan) c.requires.known in
    let child : h.owner ≡ parent h.plan s = subst (λ p. h.owner ≡ parent p s) (sym c.requires.plan) c.requires.child in
    refused_over h a s c.in-Err.ensures.kept site child c.in-Err.ensures.does.0 c.in-Err.ensures.does.2

pub sweep_site-returns-in-Ok-clause-back : goal.sweep_site-returns-in-Ok-clause-back
sweep_site-returns-in-Ok-clause-back g t c =
    let h = g.P.Port.seen c.args.port.now in
    let a = g.P.Port.seen c.register.new.self in
    let b = g.P.Port.seen c.sweep_children.new.port in
    let d = g.P.Port.seen c.finish_site.new.port in
    let s = c.args.site in
    let is : a ≡ registered h s = c.in-Ok.ensures.does.0 in
    let is_plan : IsPlan h.plan = subst IsPlan (ap (λ (x : PortView). x.plan) is) c.in-Ok.ensures.kept.plan in
    let site = subst (λ p. IsSite p s) (sym c.requires.plan) c.requires.known in
    let child : h.owner ≡ parent h.plan s = subst (λ p. h.owner ≡ parent p s) (sym c.requires.plan) c.requires.child in
    let all = back_over h a b d s is_plan site child c.requires.inner is c.sweep_children.ensures.back c.finish_site.ensures.looked in
    subst (IsBack h) (sym c.unregister.ensures.does) all.0

pub sweep_site-returns-in-Ok-clause-swept : goal.sweep_site-returns-in-Ok-clause-swept
sweep_site-returns-in-Ok-clause-swept g t c =
    let h = g.P.Port.seen c.args.port.now in
    let s = c.args.site in
    inl (subst (λ (v : PortView). unregisters s h.mine < unregisters s v.mine) (sym c.unregister.ensures.does)
    (swept_site h (g.P.Port.seen c.register.new.self) (g.P.Port.seen c.sweep_children.new.port) (g.P.Port.seen c.finish_site.new.port) s c.in-Ok.ensures.does.0 c.sweep_children.ensures.back c.finish_site.ensures.looked))
