use Rattle.std.proofs.Common.{◌≡◌, refl, ap, ◌∙◌}
use Rattle.std.specs.Prelude.{slice_set}
use Rattle.pipe_sched.specs.declared.slot.Slot.TheVariants as slot
use Rattle.pipe_sched.specs.Slots.{Out, phases_in}
use Rattle.pipe_sched.proofs.Told.{place_is, mark_is_in_model, out_is_in_model}
use Rattle.pipe_sched.proofs.Next.{handing_holds}
use Rattle.pipe_sched.proofs.state.PipeState.hand_out.Goals as goal

pub invariant_of-self : goal.invariant_of-self
invariant_of-self c =
    let n : c.from-phases.result ≡ phases_in c.self.inside.nested = c.from-phases.ensures ∙ c.phases.ensures.same in
    let is = place_is c.from.result c.from-phases.result c.from-2.result c.args.member (phases_in c.self.inside.nested) c.args.phase c.from.ensures n c.from-2.ensures in
    handing_holds c.self.inside.nested c.self.inside.slots.items c.self.inside.next.items c.args.self.now c.args.member c.args.phase _ _ _ c.args.job c.self.view_is c.self.invariant c.requires.ready c.requires.own is
    c.from-3.ensures refl

pub returns-clause-marked : goal.returns-clause-marked
returns-clause-marked c =
    let n : c.from-phases.result ≡ phases_in c.self.inside.nested = c.from-phases.ensures ∙ c.phases.ensures.same in
    let is = place_is c.from.result c.from-phases.result c.from-2.result c.args.member (phases_in c.self.inside.nested) c.args.phase c.from.ensures n c.from-2.ensures in
    mark_is_in_model c.self.inside.nested c.self.inside.slots.items _ c.args.self.now c.args.member c.args.phase (slot.Out c.args.job) Out c.self.view_is
    (ap (λ p. slice_set c.self.inside.slots.items p (slot.Out c.args.job)) is) refl

pub returns-clause-out : goal.returns-clause-out
returns-clause-out c =
    let n : c.from-phases.result ≡ phases_in c.self.inside.nested = c.from-phases.ensures ∙ c.phases.ensures.same in
    let is = place_is c.from.result c.from-phases.result c.from-2.result c.args.member (phases_in c.self.inside.nested) c.args.phase c.from.ensures n c.from-2.ensures in
    out_is_in_model c.self.inside.nested c.self.inside.slots.items c.args.self.now c.args.member c.args.phase _ c.args.job c.self.view_is c.requires.ready is
