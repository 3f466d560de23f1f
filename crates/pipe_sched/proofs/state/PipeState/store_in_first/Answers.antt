use Rattle.std.proofs.Common.{◌≡◌, ◌<◌, ap, ◌∙◌, rules}
use Rattle.std.proofs.lemmas.Result.{IfOk-weaker}
use Rattle.pipe_sched.specs.Slots.{PipeParts}
use Rattle.pipe_sched.proofs.Stores.{above_is_in_model, first_is_in_model, below_filled}
use Rattle.pipe_sched.proofs.state.PipeState.store_in_first.Goals as goal

pub store_after-requires : goal.store_after-requires
store_after-requires c = below_filled c.args.self.now c.args.member c.requires (search rules)

pub returns-then-member-eq0 : goal.returns-then-member-eq0
returns-then-member-eq0 c =
    IfOk-weaker c.first_store.result _ _
    (λ store e. first_is_in_model c.self.inside.nested c.self.inside.slots.items c.args.self.now c.args.member store c.self.view_is c.self.invariant.kept c.requires
    (search rules) (e ∙ ap (λ (p : PipeParts). p.nested.store) c.self.view_is))
    c.first_store.ensures

pub returns : goal.returns
returns c =
    IfOk-weaker c.to_store.result _ _
    (λ store e. above_is_in_model c.self.inside.nested c.self.inside.slots.items c.args.self.now c.args.member c.in_ok-store.store store
    c.self.view_is c.self.invariant.kept c.requires (search rules) c.in_ok-store.ensures e)
    c.to_store.ensures.values
