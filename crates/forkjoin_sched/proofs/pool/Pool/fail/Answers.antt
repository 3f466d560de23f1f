use Rattle.std.proofs.Common.{ap}
use Rattle.join_book.specs.Books.{BookParts}
use Rattle.forkjoin_sched.proofs.Starts.{still_kept}
use Rattle.forkjoin_sched.proofs.pool.Pool.fail.Goals as goal

pub invariant_of-self : goal.invariant_of-self
invariant_of-self c =
    still_kept c.self.inside.knows_start c.self.inside.book.possession c.acquire-book.new.mutex.possession c.release.new.self.possession c.acquire-book.result c.fail.new.self c.release.result
    c.self.invariant c.acquire-book.ensures.got c.acquire-book.ensures.held (ap (λ (b : BookParts). b.jobs) c.fail.ensures) c.release.ensures.does
