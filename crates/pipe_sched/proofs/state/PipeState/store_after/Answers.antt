use Rattle.std.proofs.Common.{◌≡◌, ◌+◌, ◌*◌, ◌<◌, ◌∙◌, arith}
use Rattle.std.proofs.lemmas.Result.{IfOk-weaker}
use Rattle.pipe_sched.specs.Slots.{Filled, phases_in}
use Rattle.pipe_sched.proofs.Told.{place_is, place_within}
use Rattle.pipe_sched.proofs.Stores.{left_is_in_model, filled_here}
use Rattle.pipe_sched.proofs.state.PipeState.store_after.Goals as goal

pub index-requires : goal.index-requires
index-requires c =
    let n : c.from-phases.result ≡ phases_in c.self.inside.nested = c.from-phases.ensures ∙ c.phases.ensures.same in
    let is = place_is c.from.result c.from-phases.result c.from-2.result c.args.member (phases_in c.self.inside.nested) c.args.phase c.from.ensures n c.from-2.ensures in
    let less = place_within c.self.inside.nested c.self.inside.slots.items c.args.self.now c.args.member c.args.phase _ Filled c.self.view_is c.requires is in
    let len = c.self.inside.slots.ok.0 in
    omega (arith, less, len)

pub store_left-requires : goal.store_left-requires
store_left-requires c =
    let n : c.from-phases.result ≡ phases_in c.self.inside.nested = c.from-phases.ensures ∙ c.phases.ensures.same in
    let is = place_is c.from.result c.from-phases.result c.from-2.result c.args.member (phases_in c.self.inside.nested) c.args.phase c.from.ensures n c.from-2.ensures in
    let less = place_within c.self.inside.nested c.self.inside.slots.items c.args.self.now c.args.member c.args.phase _ Filled c.self.view_is c.requires is in
    filled_here c.self.inside.nested c.self.inside.slots.items c.args.self.now c.args.member c.args.phase _ c.index.result.now c.self.view_is c.requires is less c.index.ensures

pub returns : goal.returns
returns c =
    let n : c.from-phases.result ≡ phases_in c.self.inside.nested = c.from-phases.ensures ∙ c.phases.ensures.same in
    let is = place_is c.from.result c.from-phases.result c.from-2.result c.args.member (phases_in c.self.inside.nested) c.args.phase c.from.ensures n c.from-2.ensures in
    let less = place_within c.self.inside.nested c.self.inside.slots.items c.args.self.now c.args.member c.args.phase _ Filled c.self.view_is c.requires is in
    IfOk-weaker c.store_left.result _ _
    (λ store e. left_is_in_model c.self.inside.nested c.self.inside.slots.items c.args.self.now c.args.member c.args.phase _ c.index.result.now store.cells
    c.self.view_is c.self.invariant.kept c.requires is less c.index.ensures e)
    c.store_left.ensures
