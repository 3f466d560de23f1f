use Rattle.std.proofs.Common.{sym, ap, subst}
use Rattle.join_book.specs.Books.{BookParts}
use Rattle.forkjoin_sched.specs.Pools.{StartFrom}
use Rattle.forkjoin_sched.proofs.Starts.{put_kept}
use Rattle.forkjoin_sched.proofs.pool.Pool.put_in.Goals as goal

pub invariant_of-self : goal.invariant_of-self
invariant_of-self c =
    let told = ap (λ p. p.book) c.self.view_is in
    put_kept c.args.known c.self.inside.book.possession c.acquire-book.new.mutex.possession c.release.new.self.possession c.acquire-book.result c.put-deposit.new.self c.release.result
    c.args.piece c.put-deposit.result
    (λ is. subst (λ (b : BookParts). StartFrom c.args.piece.job.store b.jobs) (sym told) (c.requires is))
    c.acquire-book.ensures.got c.acquire-book.ensures.held c.put-deposit.ensures c.release.ensures.does
