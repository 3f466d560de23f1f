use Rattle.std.proofs.Common.{◌≡◌, map, sym, ◌∙◌, subst}
use Rattle.pipe_sched.specs.Slots.{phases_in, follows}
use Rattle.pipe_sched.specs.Inside.{mark_of, IsHeld}
use Rattle.pipe_sched.proofs.Kept.{kept_failed, failed_model}
use Rattle.pipe_sched.proofs.Next.{next_failed}
use Rattle.pipe_sched.proofs.Told.{failing_whole, failing_is_in_model, fails_here}
use Rattle.pipe_sched.proofs.state.PipeState.fail.Goals as goal

pub invariant_of-self : goal.invariant_of-self
invariant_of-self c =
    let items = c.self.inside.slots.items in
    let n : c.from-phases.result ≡ phases_in c.self.inside.nested = c.from-phases.ensures ∙ c.phases.ensures.same in
    let whole = failing_whole items c.deref_mut.result.now c.fail_from.new.slots c.self.inside.slots.len c.from-phases.result c.from.result c.from-2.result
    (phases_in c.self.inside.nested) c.args.member c.args.phase c.deref_mut.ensures.value c.self.inside.slots.ok.0 n c.from.ensures c.from-2.ensures c.fail_from.ensures in
    let test = follows (phases_in c.self.inside.nested) c.args.member c.args.phase in
    subst (λ l. IsHeld c.self.inside.nested l c.self.inside.next.items) (sym whole) (record {
      kept = kept_failed c.self.inside.nested items test c.self.invariant.kept;
      members = c.self.invariant.members;
      begun = rw (failed_model items test) (next_failed (phases_in c.self.inside.nested) (map mark_of items) c.self.inside.next.items test c.self.invariant.begun);
    })

pub returns-clause-same : goal.returns-clause-same
returns-clause-same c =
    let items = c.self.inside.slots.items in
    let n : c.from-phases.result ≡ phases_in c.self.inside.nested = c.from-phases.ensures ∙ c.phases.ensures.same in
    let whole = failing_whole items c.deref_mut.result.now c.fail_from.new.slots c.self.inside.slots.len c.from-phases.result c.from.result c.from-2.result
    (phases_in c.self.inside.nested) c.args.member c.args.phase c.deref_mut.ensures.value c.self.inside.slots.ok.0 n c.from.ensures c.from-2.ensures c.fail_from.ensures in
    failing_is_in_model c.self.inside.nested items _ c.args.self.now c.args.member c.args.phase c.self.view_is whole

pub returns-clause-failed : goal.returns-clause-failed
returns-clause-failed c =
    let items = c.self.inside.slots.items in
    let n : c.from-phases.result ≡ phases_in c.self.inside.nested = c.from-phases.ensures ∙ c.phases.ensures.same in
    let whole = failing_whole items c.deref_mut.result.now c.fail_from.new.slots c.self.inside.slots.len c.from-phases.result c.from.result c.from-2.result
    (phases_in c.self.inside.nested) c.args.member c.args.phase c.deref_mut.ensures.value c.self.inside.slots.ok.0 n c.from.ensures c.from-2.ensures c.fail_from.ensures in
    fails_here c.self.inside.nested items _ c.args.self.now c.args.member c.args.phase c.self.view_is c.self.invariant.kept c.requires whole
