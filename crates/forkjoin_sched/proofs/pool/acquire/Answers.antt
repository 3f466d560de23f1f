use Rattle.forkjoin_sched.proofs.Starts.{got_book}
use Rattle.forkjoin_sched.proofs.pool.acquire.Goals as goal

pub returns-clause-got : goal.returns-clause-got
returns-clause-got c = (got_book c.args.mutex.now.possession c.acquire.new.self.possession c.in-Got.book c.in-Got.ensures.does).0

pub returns-clause-held : goal.returns-clause-held
returns-clause-held c = (got_book c.args.mutex.now.possession c.acquire.new.self.possession c.in-Got.book c.in-Got.ensures.does).1
