use Rattle.std.proofs.Common.{sym, subst}
use Rattle.forkjoin_sched.specs.Pools.{StartFrom}
use Rattle.forkjoin_sched.proofs.shared.SharedPool.has_jobs_of.Goals as goal

pub have_same_work-requires : goal.have_same_work-requires
have_same_work-requires c =
    let known = c.starts_as.ensures c.if-starts_as.true in
    (known.0, subst (StartFrom known.0) (sym c.jobs.ensures) known.1, subst (StartFrom known.0) (sym c.jobs-then-starts_as.ensures) known.2)
