use Rattle.std.proofs.Common.{◌≡◌, ◌*◌, length, ap, ◌∙◌, arith}
use Rattle.std.proofs.lemmas.Result.{IfOk-weaker}
use Rattle.pipe_sched.specs.Slots.{phases_in}
use Rattle.pipe_sched.proofs.Told.{room_for}
use Rattle.pipe_sched.proofs.Stores.{later_is_in_model, earlier_filled}
use Rattle.pipe_sched.proofs.state.PipeState.store_in_later.Goals as goal

pub store_after-requires : goal.store_after-requires
store_after-requires c = earlier_filled c.args.self.now c.args.member c.args.phase c.requires.ready c.requires.later

pub merge_phase-requires-clause-there : goal.merge_phase-requires-clause-there
merge_phase-requires-clause-there c =
    let room = room_for c.self.inside.nested c.self.inside.slots.items c.args.self.now c.args.member c.args.phase c.self.view_is c.self.invariant.kept c.requires.ready in
    let row : c.from-below.result * c.from-phases.result ≡ c.args.member * phases_in c.self.inside.nested
    = ap (λ m. m * c.from-phases.result) c.from-below.ensures ∙ ap (λ p. c.args.member * p) (c.from-phases.ensures ∙ c.phases.ensures.same) in
    let size = ap length c.deref.ensures.value in
    let whole = room.below in
    omega (arith, row, size, whole)

pub merge_phase-requires-clause-phase : goal.merge_phase-requires-clause-phase
merge_phase-requires-clause-phase c =
    let room = room_for c.self.inside.nested c.self.inside.slots.items c.args.self.now c.args.member c.args.phase c.self.view_is c.self.invariant.kept c.requires.ready in
    let less = room.phase in
    let n : c.from-phases.result ≡ phases_in c.self.inside.nested = c.from-phases.ensures ∙ c.phases.ensures.same in
    let from = c.from-own.ensures in
    omega (arith, less, n, from)

pub returns : goal.returns
returns c =
    IfOk-weaker c.to_store.result _ _
    (λ store e. later_is_in_model c.self.inside.nested c.self.inside.slots.items c.deref.result.now c.args.self.now c.args.member c.args.phase
    c.from-phases.result c.from-below.result c.from-own.result c.in_ok-store.store c.merge_phase.new.store store
    c.self.view_is c.self.invariant.kept c.requires.ready c.requires.later c.deref.ensures.value (c.from-phases.ensures ∙ c.phases.ensures.same)
    c.from-below.ensures c.from-own.ensures c.in_ok-store.ensures c.merge_phase.ensures e)
    c.to_store.ensures.values
