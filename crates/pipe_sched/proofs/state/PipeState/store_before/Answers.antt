use Rattle.std.proofs.Common.{◌≡◌, ap, sym, ◌∙◌, subst, rules}
use Rattle.std.proofs.lemmas.Result.{IfOk-weaker}
use Rattle.step_eval.specs.Nests.{nested_of}
use Rattle.pipe_sched.specs.Slots.{phases_in, IsReady}
use Rattle.pipe_sched.specs.Pipes.{piped_store}
use Rattle.pipe_sched.proofs.state.PipeState.store_before.Goals as goal

pub store_in_first-requires : goal.store_in_first-requires
store_in_first-requires c =
    let first : c.args.phase ≡ 0 = search rules in
    subst (λ k. IsReady (phases_in c.args.self.now.nested) c.args.self.now.marks c.args.member k) first c.requires

pub returns-then-phase-eq0 : goal.returns-then-phase-eq0
returns-then-phase-eq0 c =
    let first : c.args.phase ≡ 0 = search rules in
    IfOk-weaker c.store_in_first.result _ _
    (λ store e. e ∙ ap (λ k. piped_store (nested_of c.args.self.now.nested) c.args.member k) (sym first)) c.store_in_first.ensures
