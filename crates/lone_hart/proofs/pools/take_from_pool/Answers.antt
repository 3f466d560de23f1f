use Rattle.std.proofs.Common.{◌∙◌}
use Rattle.std.proofs.lemmas.Result.{IfOk-weaker}
use Rattle.step_eval.specs.Nests.{nested_of}
use Rattle.forkjoin_sched.proofs.PhaseBooks.{pools_give_constructs}
use Rattle.lone_hart.proofs.pools.take_from_pool.Goals as goal

pub returns-clause-written : goal.returns-clause-written
returns-clause-written c =
    let of = c.requires.of in
    IfOk-weaker c.take_all.result _ _
    (λ written is. is ∙ pools_give_constructs (nested_of c.args.nested.now) of.fit of.one_phase c.args.pool.book of.jobs)
    c.take_all.ensures.written
