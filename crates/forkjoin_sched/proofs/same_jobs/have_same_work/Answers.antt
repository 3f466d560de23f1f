use Rattle.std.proofs.Common.{arith}
use Rattle.forkjoin_sched.proofs.SameJobs.{differ_at}
use Rattle.forkjoin_sched.proofs.same_jobs.have_same_work.Goals as goal

pub returns-then-not-is_same_work : goal.returns-then-not-is_same_work
returns-then-not-is_same_work c =
    differ_at c.is_same_work.result c.args.xs.now c.args.ys.now c.loop-number.number c.index-xs-number.result c.index-ys-number.result (omega arith) (omega arith)
    c.index-xs-number.is c.index-ys-number.is c.is_same_work.ensures c.if-not-is_same_work.true
