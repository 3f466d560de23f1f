use Rattle.std.proofs.Common.{◌≡◌, ◌+◌, ◌*◌, ◌∙◌, arith}
use Rattle.pipe_sched.specs.Slots.{phases_in}
use Rattle.pipe_sched.proofs.Told.{place_is, seen, unseen, unseen_phase}
use Rattle.pipe_sched.proofs.state.PipeState.slot_at.Goals as goal

pub returns-then-from-phases-clause-none : goal.returns-then-from-phases-clause-none
returns-then-from-phases-clause-none c =
    let n : c.from-phases.result ≡ phases_in c.self.inside.nested = c.from-phases.ensures ∙ c.phases.ensures.same in
    unseen_phase c.self.inside.nested c.self.inside.slots.items c.args.self.now c.args.member c.args.phase c.self.view_is (omega (arith, n))

pub returns-then-place-len-clause-none : goal.returns-then-place-len-clause-none
returns-then-place-len-clause-none c =
    let n : c.from-phases.result ≡ phases_in c.self.inside.nested = c.from-phases.ensures ∙ c.phases.ensures.same in
    let place = c.from.result * c.from-phases.result + c.from-2.result in
    let is = place_is c.from.result c.from-phases.result c.from-2.result c.args.member (phases_in c.self.inside.nested) c.args.phase c.from.ensures n c.from-2.ensures in
    unseen c.self.inside.nested c.self.inside.slots.items c.args.self.now c.args.member c.args.phase place c.self.view_is is
    (let len = c.self.inside.slots.ok.0 in omega (arith, len))

pub returns-clause-some : goal.returns-clause-some
returns-clause-some c =
    let n : c.from-phases.result ≡ phases_in c.self.inside.nested = c.from-phases.ensures ∙ c.phases.ensures.same in
    let place = c.from.result * c.from-phases.result + c.from-2.result in
    let is = place_is c.from.result c.from-phases.result c.from-2.result c.args.member (phases_in c.self.inside.nested) c.args.phase c.from.ensures n c.from-2.ensures in
    seen c.self.inside.nested c.self.inside.slots.items c.args.self.now c.args.member c.args.phase place c.index.result.now c.self.view_is c.self.invariant.kept is
    (omega (arith, n)) (let len = c.self.inside.slots.ok.0 in omega (arith, len)) c.index.ensures
