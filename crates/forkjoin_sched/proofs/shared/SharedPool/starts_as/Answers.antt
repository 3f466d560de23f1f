use Rattle.forkjoin_sched.proofs.Starts.{same_start}
use Rattle.forkjoin_sched.proofs.shared.SharedPool.starts_as.Goals as goal

pub returns : goal.returns
returns c =
    same_start c.in-Some.own.now c.in-Some-start.start.now c.args.pool.now.book.jobs c.args.self.now.jobs c.eq.result c.in-Some-start.ensures.all c.in-Some.ensures.all c.eq.ensures.same
