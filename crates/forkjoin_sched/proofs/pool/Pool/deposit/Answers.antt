use Rattle.forkjoin_sched.proofs.Starts.{still_kept, deposit_jobs}
use Rattle.forkjoin_sched.proofs.pool.Pool.deposit.Goals as goal

pub invariant_of-self : goal.invariant_of-self
invariant_of-self c =
    still_kept c.self.inside.knows_start c.self.inside.book.possession c.acquire-book.new.mutex.possession c.release.new.self.possession c.acquire-book.result c.deposit-deposit.new.self
    c.release.result c.self.invariant c.acquire-book.ensures.got c.acquire-book.ensures.held
    (deposit_jobs c.acquire-book.result c.args.piece c.deposit-deposit.result c.deposit-deposit.new.self c.deposit-deposit.ensures) c.release.ensures.does
