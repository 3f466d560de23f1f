use Rattle.std.proofs.Common.{◌≡◌, ℕ, ◌-◌, ◌++◌, ◌∷◌, [], List, Bool, true, false, Some, refl, sym, ◌∙◌, ap, subst, arith, rules}
use Rattle.std.specs.Prelude.{OnOk, IsSome}
use Rattle.std.proofs.lemmas.Grind.{common_steps}
use Rattle.transfer_table.specs.Plan.{IsSite, IsPlan, parent, Plan}
use Rattle.hart_port.specs.PortView.{PortView, registered, entered}
use Rattle.transfer_table.specs.declared.entry.Entry.{Entry}
use Rattle.transfer_table.specs.declared.entry.Entry.TheVariants.{Unregister}
use Rattle.transfer_table.specs.Accounts.{IsSpan, AreFresh}
use Rattle.transfer_table.specs.AccountLaws.{IsSkippedSpan}
use Rattle.site_steps.specs.Back.{IsBack}
use Rattle.hart_work.specs.Accounts.{WhereAlone}
use Rattle.hart_work.proofs.Served.{stays_then, gives_at, at_back, back_at, begun, serves_first, at_ok, on_err, on_ok}
use Rattle.site_steps.proofs.Backs.{back_refl, back_then, back_over, back_visited, refused_over}
use Rattle.hart_work.proofs.serving.+serve.Goals as goal
use Rattle.hart_work.proofs.serving.+serve.Goals.{be_guest-in-Run, be_guest-in-Lend, be_guest-in-Nothing}

-- A child of the owner by the plan is a child by the hart's plan.
child_of : (p : Plan) (h : PortView) (s around : ℕ) → h.plan ≡ p → around ≡ h.owner → IsSite p s → parent p s ≡ around → IsSite h.plan s × (h.owner ≡ parent h.plan s)
child_of p h s around same own site up = (subst (λ q. IsSite q s) (sym same) site, subst (λ q. h.owner ≡ parent q s) (sym same) (sym own ∙ sym up))

pub run_construct-until_gone-requires-clause-over : goal.run_construct-until_gone-requires-clause-over
run_construct-until_gone-requires-clause-over g t c =
    let h = g.P.Port.seen c.args.port.now in
    let a = g.P.Port.seen c.sched_register-claim.new.port in
    let s = c.number-number.result in
    let yes : c.is_child.result ≡ true = search rules in
    let is = c.is_child.ensures.0 yes in
    let child = child_of c.args.run.tree.now h s c.owner.result c.requires.plan c.owner.ensures.same is.0 is.1 in
    refused_over h a s c.in-Err.ensures.kept child.0 child.1 c.in-Err.ensures.does.0.0 c.in-Err.ensures.does.0.2

pub run_construct-returns-in-Ok-clause-back : goal.run_construct-returns-in-Ok-clause-back
run_construct-returns-in-Ok-clause-back g t c =
    let h = g.P.Port.seen c.args.port.now in
    let a = g.P.Port.seen c.sched_register-claim.new.port in
    let asked = g.P.Port.seen c.ask.new.port in
    let served = g.P.Port.seen c.serve.new.port in
    let settled = g.P.Port.seen c.sweep_if.new.port in
    let done = g.P.Port.seen c.finish_site.new.port in
    let s = c.number-number.result in
    let yes : c.is_child.result ≡ true = search rules in
    let is_one = c.is_child.ensures.0 yes in
    let child = child_of c.args.run.tree.now h s c.owner.result c.requires.plan c.owner.ensures.same is_one.0 is_one.1 in
    let back = back_then a served settled (back_then a asked served c.ask.ensures.back c.serve.ensures.back) c.sweep_if.ensures.back in
    let all = back_over h a settled done s c.owner.ensures.kept.plan child.0 child.1 c.requires.inner c.in-Ok.ensures.does.0.0 back c.finish_site.ensures.looked in
    subst (IsBack h) (sym c.sched_unregister.ensures.does) all.0

pub run_piece-returns-then-is_err-clause-back : goal.run_piece-returns-then-is_err-clause-back
run_piece-returns-then-is_err-clause-back g t c =
    back_then (g.P.Port.seen c.args.port.now) (g.P.Port.seen c.steps.port) (g.P.Port.seen c.run_construct-written.new.port) c.steps.invariant.back c.run_construct-written.ensures.back

pub run_piece-steps-preserved : goal.run_piece-steps-preserved
run_piece-steps-preserved g t c =
    let inv = c.steps.invariant in
    let from = g.P.Port.seen c.steps.port in
    let to = g.P.Port.seen c.skip_span.new.port in
    let told = rw c.in-Nest-Pass.field-0-is at c.in-Nest-Pass.ensures.goes in
    record {
      back = back_then (g.P.Port.seen c.args.port.now) from to inv.back c.skip_span.ensures.back;
      stays = inv.stays;
      account = (λ alone.
          let f = g.P.Port.seen c.args.port.now in
          let skips = rw c.in-Nest-Pass.field-0-is at c.in-Nest-Pass.ensures.account in
          let next = skips f.plan f.owner f.mine from.mine (inv.account alone) in
          next.2 to.mine (back_at f from inv.back (λ p o. IsSpan p o c.in-Nest-Pass.first (c.in-Nest-Pass.end - c.in-Nest-Pass.first)
          → AreFresh p from.mine c.in-Nest-Pass.first (c.in-Nest-Pass.end - c.in-Nest-Pass.first) → IsSkippedSpan p from.mine to.mine c.in-Nest-Pass.first (c.in-Nest-Pass.end - c.in-Nest-Pass.first))
          (c.skip_span.ensures.skipped (inv.back.alone ∙ alone)) next.0 next.1));
      job = told.2 ∙ inv.job;
      ready = told.1;
      hart_local = inv.hart_local;
    }

pub run_piece-steps-preserved-else-is_err : goal.run_piece-steps-preserved-else-is_err
run_piece-steps-preserved-else-is_err g t c =
    let inv = c.steps.invariant in
    let run = c.run_construct-written.ensures in
    record {
      back = back_then (g.P.Port.seen c.args.port.now) (g.P.Port.seen c.steps.port) (g.P.Port.seen c.run_construct-written.new.port) inv.back run.back;
      stays = stays_then g.H.Sites.facts c.args.around.now c.steps.around c.run_construct-written.new.around inv.stays run.stays;
      account = (λ alone.
          let f = g.P.Port.seen c.args.port.now in
          let from = g.P.Port.seen c.steps.port in
          let to = g.P.Port.seen c.run_construct-written.new.port in
          let nests = rw c.in-Nest-Nest.field-0-is at c.in-Nest-Nest.ensures.account in
          let next = nests f.plan f.owner f.mine from.mine (inv.account alone) in
          let n = c.in-Nest-Nest.nested in
          let same : c.ctx_resume-running.result ≡ c.step.new.running = c.ctx_resume-running.ensures ∙ c.ctx_pause-paused.ensures in
          let ran = subst (λ p. OnOk c.run_construct-written.result (g.M.Machines.ran p from.mine to.mine n)) inv.back.plan (run.ran (inv.back.alone ∙ alone)) in
          at_ok c.supply.result _ (sym (c.if-is_err.ensures.value)) c.supply.ensures.going n f.plan f.owner f.mine from.mine to.mine
          (subst (λ m. g.M.Machines.awaiting n m f.plan f.owner f.mine from.mine) (sym same) next.0) ran);
      job = first_of (search rules, grind (arith, common_steps));
      ready = first_of (search rules, grind (arith, common_steps));
      hart_local = first_of (search rules, grind (arith, common_steps));
    }

pub serve-tasks-preserved-in-Run : goal.serve-tasks-preserved-in-Run
serve-tasks-preserved-in-Run g t c =
    let inv = c.tasks.invariant in
    let run = c.run_job.ensures in
    let does = c.in-Run.ensures.does in
    let after = c.sched_reenter-next.new.current.site.now in
    let gives = gives_at g.H.Sites.facts g.M.Machines.fresh_job c.new.ensures.lent.1 inv.settled does.gives in
    let at : c.site-1.given.0 ≡ after = first_of (search rules, grind (arith, common_steps)) in
    let home : c.sites-1.given.0 ≡ c.sched_reenter-next.new.current.sites.now = first_of (search rules, grind (arith, common_steps)) in
    record {
      served = (λ alone start first.
          let f = g.P.Port.seen c.args.port.now in
          let tv = g.P.Port.seen c.tasks.port in
          let next = gives.served f.plan f.owner start tv.mine (inv.served alone start first) in
          back_at f tv inv.back (λ p o. g.H.Sites.facts.lent after c.in-Run.job p o start tv.mine → g.H.Sites.facts.serving c.run_job.new.site p o start (g.P.Port.seen c.run_job.new.port).mine)
          (subst (λ s. g.H.Sites.facts.lent s c.in-Run.job tv.plan tv.owner start tv.mine → g.H.Sites.facts.serving c.run_job.new.site tv.plan tv.owner start (g.P.Port.seen c.run_job.new.port).mine) at
          (run.served (inv.back.alone ∙ alone) start)) next.0);
      back = back_then (g.P.Port.seen c.args.port.now) (g.P.Port.seen c.tasks.port) (g.P.Port.seen c.run_job.new.port) inv.back run.back;
      construct = run.construct ∙ ap g.H.Sites.facts.construct at ∙ gives.construct ∙ inv.construct;
      settled = run.settled;
      left = (let a = run.left in let b = inv.left in let n = gives.left in let e = ap g.H.Sites.facts.left at in omega arith);
      hart_local = run.hart_local ∙ ap g.H.Sites.hart_local home ∙ does.same.hart_local ∙ ap g.H.Sites.hart_local c.new.ensures.lent.0 ∙ inv.hart_local;
    }

pub serve-tasks-preserved : goal.serve-tasks-preserved
serve-tasks-preserved g t c =
    let inv = c.tasks.invariant in
    let run = c.visit.ensures in
    let does = c.in-Lend.ensures.does in
    let after = c.sched_reenter-next.new.current.site.now in
    let gives = gives_at g.H.Sites.facts g.M.Machines.fresh_job c.new.ensures.lent.1 inv.settled does.gives in
    let at : c.site-1.given.0 ≡ after = first_of (search rules, grind (arith, common_steps)) in
    let home : c.sites-1.given.0 ≡ c.sched_reenter-next.new.current.sites.now = first_of (search rules, grind (arith, common_steps)) in
    record {
      served = (λ alone start first.
          let f = g.P.Port.seen c.args.port.now in
          absurd (gives.served f.plan f.owner start (g.P.Port.seen c.tasks.port).mine (inv.served alone start first)));
      back = back_then (g.P.Port.seen c.args.port.now) (g.P.Port.seen c.tasks.port) (g.P.Port.seen c.visit.new.port) inv.back run.back;
      construct = run.stays.construct ∙ ap g.H.Sites.facts.construct at ∙ gives.construct ∙ inv.construct;
      settled = run.stays.settled (subst g.H.Sites.facts.settled (sym at) gives.account);
      left = (let a = run.stays.left in let b = inv.left in let n = gives.left in let e = ap g.H.Sites.facts.left at in omega arith);
      hart_local = run.hart_local ∙ ap g.H.Sites.hart_local home ∙ does.same.hart_local ∙ ap g.H.Sites.hart_local c.new.ensures.lent.0 ∙ inv.hart_local;
    }

pub visit-returns-in-Some-enter-clause-back : goal.visit-returns-in-Some-enter-clause-back
visit-returns-in-Some-enter-clause-back g t c =
    let h = g.P.Port.seen c.args.port.now in
    let a = g.P.Port.seen c.enter.new.port in
    let served = g.P.Port.seen c.be_guest.new.port in
    let s = c.args.child in
    let yes : c.is_child.result ≡ true = search rules in
    let is_one = c.is_child.ensures.0 yes in
    let child = child_of c.args.run.tree.now h s c.owner.result c.requires.plan c.owner.ensures.same is_one.0 is_one.1 in
    let inside : a ≡ entered h s = subst (λ k. a ≡ entered h k) (c.in-Some.ensures.number c.in-Some.site refl) c.in-Some-enter.ensures.does in
    subst (IsBack h) (sym c.sched_yield.ensures.does) (back_visited h a served s c.owner.ensures.kept.plan child.0 child.1 c.requires.inner inside c.be_guest.ensures.back)

pub be_guest-returns-clause-back : goal.be_guest-returns-clause-back
be_guest-returns-clause-back g t c =
    let a = g.P.Port.seen c.args.port.now in
    let begun = g.P.Port.seen c.match-next.port in
    let first : IsBack a begun = elim c.match-next.branch [
      | be_guest-in-Run w ↦ subst (λ x. IsBack a (g.P.Port.seen x)) (sym w.port-is) w.run_job.ensures.back
      | be_guest-in-Lend w ↦ subst (λ x. IsBack a (g.P.Port.seen x)) (sym w.port-is) w.visit.ensures.back
      | be_guest-in-Nothing w ↦ subst (λ x. IsBack a (g.P.Port.seen x)) (sym w.port-is) (back_refl a c.requires.inner)
    ] in
    back_then a begun (g.P.Port.seen c.serve.new.port) first c.serve.ensures.back

pub be_guest-returns-clause-hart_local : goal.be_guest-returns-clause-hart_local
be_guest-returns-clause-hart_local g t c =
    let first : g.H.Sites.hart_local c.match-next.sites ≡ g.H.Sites.hart_local c.args.sites.now = elim c.match-next.branch [
      | be_guest-in-Run w ↦ ap g.H.Sites.hart_local w.sites-is ∙ w.run_job.ensures.hart_local
      | be_guest-in-Lend w ↦ ap g.H.Sites.hart_local w.sites-is ∙ w.visit.ensures.hart_local
      | be_guest-in-Nothing w ↦ ap g.H.Sites.hart_local w.sites-is
    ] in
    c.serve.ensures.hart_local ∙ first

pub run_construct-serve-requires : goal.run_construct-serve-requires
run_construct-serve-requires g t c =
    let h = g.P.Port.seen c.args.port.now in
    let asked = g.P.Port.seen c.ask.new.port in
    let serving : WhereAlone asked (λ p around es. g.H.Sites.keeps × (start : List Entry) × g.H.Sites.facts.serving c.in_ok-site.site p around start es) = λ alone. (
      (c.requires.fresh (sym (ap (λ (x : PortView). x.alone) c.in-Ok.ensures.does.0.0) ∙ sym c.ask.ensures.back.alone ∙ alone)).0,
      begun h c.number-number.result,
      serves_first (g.H.Sites.facts.serving c.in_ok-site.site) h (g.P.Port.seen c.sched_register-claim.new.port) asked c.number-number.result (g.M.Machines.number_of c.args.nested) c.number-number.ensures.number
          c.in-Ok.ensures.does.0.0 c.ask.ensures.quiet c.ask.ensures.back.alone (λ whole. let own = c.requires.fresh whole in c.in_ok-site.ensures.serving own.0 h.plan h.owner h.mine h.hart c.owner.ensures.kept.plan own.1) alone,
    ) in
    search rules

pub run_construct-sweep_if-requires-clause-told : goal.run_construct-sweep_if-requires-clause-told
run_construct-sweep_if-requires-clause-told g t c = λ well alone.
    let h = g.P.Port.seen c.args.port.now in
    let asked = g.P.Port.seen c.ask.new.port in
    let v = g.P.Port.seen c.serve.new.port in
    let back = c.serve.ensures.back in
    let start = begun h c.number-number.result in
    let was : asked.alone ≡ true = sym back.alone ∙ alone in
    let served = at_back asked v back (λ p o. g.H.Sites.facts.serving c.serve.new.site p o start v.mine) (c.serve.ensures.served was start (serves_first (g.H.Sites.facts.serving c.in_ok-site.site) h (g.P.Port.seen c.sched_register-claim.new.port) asked c.number-number.result (g.M.Machines.number_of c.args.nested) c.number-number.ensures.number
    c.in-Ok.ensures.does.0.0 c.ask.ensures.quiet c.ask.ensures.back.alone (λ whole. let own = c.requires.fresh whole in c.in_ok-site.ensures.serving own.0 h.plan h.owner h.mine h.hart c.owner.ensures.kept.plan own.1) was)) in
    let whole : asked ≡ registered h c.number-number.result = c.ask.ensures.quiet (sym c.ask.ensures.back.alone ∙ was) ∙ c.in-Ok.ensures.does.0.0 in
    let plan : v.plan ≡ h.plan = back.plan ∙ ap (λ (x : PortView). x.plan) whole in
    c.has_failed.ensures.ended well (c.serve.ensures.over (subst IsSome (sym (c.serve.ensures.construct ∙ c.in_ok-site.ensures.construct)) refl)) v.plan v.owner start v.mine (subst IsPlan (sym plan) c.owner.ensures.kept.plan) served

pub run_construct-returns-in-Ok-clause-ran : goal.run_construct-returns-in-Ok-clause-ran
run_construct-returns-in-Ok-clause-ran g t c = λ alone.
    let h = g.P.Port.seen c.args.port.now in
    let a = g.P.Port.seen c.sched_register-claim.new.port in
    let asked = g.P.Port.seen c.ask.new.port in
    let v = g.P.Port.seen c.serve.new.port in
    let settled = g.P.Port.seen c.sweep_if.new.port in
    let done = g.P.Port.seen c.finish_site.new.port in
    let u = g.P.Port.seen c.sched_unregister.new.port in
    let s = c.number-number.result in
    let n = g.M.Machines.number_of c.args.nested in
    let Q = g.H.Sites.facts.serving c.serve.new.site in
    let is = c.in-Ok.ensures.does.0.0 in
    let one : a.alone ≡ true = ap (λ (x : PortView). x.alone) is ∙ alone in
    let whole : asked ≡ registered h s = c.ask.ensures.quiet one ∙ is in
    let served : Q h.plan s (begun h s) v.mine = subst (λ (x : PortView). Q x.plan x.owner (begun h s) v.mine) whole
    (c.serve.ensures.served (c.ask.ensures.back.alone ∙ one) (begun h s) (serves_first (g.H.Sites.facts.serving c.in_ok-site.site) h (g.P.Port.seen c.sched_register-claim.new.port) asked c.number-number.result (g.M.Machines.number_of c.args.nested) c.number-number.ensures.number
    c.in-Ok.ensures.does.0.0 c.ask.ensures.quiet c.ask.ensures.back.alone (λ whole. let own = c.requires.fresh whole in c.in_ok-site.ensures.serving own.0 h.plan h.owner h.mine h.hart c.owner.ensures.kept.plan own.1) (c.ask.ensures.back.alone ∙ one))) in
    let nested : g.H.Sites.facts.construct c.serve.new.site ≡ Some c.args.nested = c.serve.ensures.construct ∙ c.in_ok-site.ensures.construct in
    let Ran = g.M.Machines.ran in
    let well : c.has_failed.result ≡ false → OnOk c.take.result (Ran h.plan h.mine u.mine c.args.nested) = λ none.
    let looked = c.finish_site.ensures.looked.same in
    let quiet = c.sweep_if.ensures.quiet none in
    let there : done.owner ≡ s = ap (λ (x : PortView). x.owner) (looked ∙ ap (λ (x : PortView). record x { closed = done.closed; empty = done.empty; gone = done.gone }) quiet) ∙ c.serve.ensures.back.owner ∙ ap (λ (x : PortView). x.owner) whole in
    let hart : done.hart ≡ h.hart = ap (λ (x : PortView). x.hart) (looked ∙ ap (λ (x : PortView). record x { closed = done.closed; empty = done.empty; gone = done.gone }) quiet) ∙ c.serve.ensures.back.hart ∙ ap (λ (x : PortView). x.hart) whole in
    let mine : done.mine ≡ v.mine = ap (λ (x : PortView). x.mine) looked ∙ ap (λ (x : PortView). x.mine) quiet in
    let all : u.mine ≡ v.mine ++ Unregister h.hart n ∷ [] = ap (λ (x : PortView). x.mine) c.sched_unregister.ensures.does
    ∙ ap (λ es. es ++ Unregister done.hart done.owner ∷ []) mine ∙ ap (λ k. v.mine ++ Unregister k done.owner ∷ []) hart ∙ ap (λ k. v.mine ++ Unregister h.hart k ∷ []) (there ∙ c.number-number.ensures.number) in
    on_ok c.take.result _ _ (λ ran. subst (λ es. Ran h.plan h.mine es c.args.nested) (sym all)
    (ran h.plan h.mine v.mine h.hart c.owner.ensures.kept.plan (subst (λ k. Q h.plan k (begun h k) v.mine) c.number-number.ensures.number served)))
    (c.take.ensures.ran c.args.nested nested) in
    by_failed c.has_failed.result well (λ yes. on_err c.take.result _ (c.take.ensures.failed (c.has_failed.ensures.failed yes h.plan s (begun h s) v.mine served)))
  where
    by_failed : {A : Type 0} → (b : Bool) → (b ≡ false → A) → (b ≡ true → A) → A
    by_failed false well ill = well refl
    by_failed true well ill = ill refl
