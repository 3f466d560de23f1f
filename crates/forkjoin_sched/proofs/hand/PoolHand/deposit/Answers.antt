use Rattle.std.proofs.Common.{ap, subst}
use Rattle.array_jobs.specs.PieceParts.{PieceParts}
use Rattle.join_book.specs.Books.{BookParts, Puts}
use Rattle.join_book.specs.declared.book.Deposit.{Deposit}
use Rattle.join_book.specs.declared.book.Deposit.TheVariants.{Kept, Double, Stranger}
use Rattle.forkjoin_sched.specs.Shared.{SharedParts, HasJob, Receives}
use Rattle.forkjoin_sched.proofs.hand.PoolHand.deposit.Goals as goal

-- The result of a piece that is put in, if its job is the slot's own.
received : (shared : SharedParts) (piece : PieceParts) (deposit : Deposit) (before after : BookParts) → HasJob shared piece.job →
    Puts before piece deposit after → Receives shared piece deposit
received shared piece Kept before after has puts = has
received shared piece (Double back) before after has puts = (has, puts.2)
received shared piece (Stranger back) before after has puts = puts.1

pub returns-in-Some : goal.returns-in-Some
returns-in-Some g c =
    let job = ap (λ p. p.job) c.piece.view_is in
    let has = subst (HasJob c.args.self.now.shared.now) job (c.has_job.ensures.0 c.if-not-has_job.false) in
    received c.args.self.now.shared.now c.args.piece c.put-deposit.result _ _ has c.put-deposit.ensures.book
