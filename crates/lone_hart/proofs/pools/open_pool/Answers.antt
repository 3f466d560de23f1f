use Rattle.std.proofs.Common.{refl, sym, subst}
use Rattle.std.proofs.lemmas.Result.{IfOk-weaker}
use Rattle.step_eval.specs.Nests.{nested_of}
use Rattle.forkjoin_sched.specs.Pools.{PoolParts, roomy_pool}
use Rattle.step_eval.specs.declared.work.Work.TheVariants.{Begin}
use Rattle.forkjoin_sched.proofs.PhaseStarts.{jobs_start_alike}
use Rattle.lone_hart.specs.Accounts.{Stands}
use Rattle.lone_hart.proofs.Accounts.{none_out}
use Rattle.lone_hart.proofs.pools.open_pool.Goals as goal

-- The jobs start from the construct's store.
pub of_one_start-requires-clause-start : goal.of_one_start-requires-clause-start
of_one_start-requires-clause-start c =
    jobs_start_alike (nested_of c.args.nested.now) 0 c.nested.inside.store c.in_ok-jobs.jobs.items c.in_ok-jobs.ensures.jobs

pub returns-clause-none : goal.returns-clause-none
returns-clause-none c =
    let jobs = c.in_ok-jobs.jobs.items in
    IfOk-weaker c.of_one_start.result _ _
    (λ pool is. subst (λ (p : PoolParts). Stands Begin p.book p.agenda 0 0) (sym is) (none_out Begin jobs (roomy_pool jobs c.room_for_wishes.result).agenda c.in_ok-jobs.ensures.group refl refl))
    c.of_one_start.ensures
