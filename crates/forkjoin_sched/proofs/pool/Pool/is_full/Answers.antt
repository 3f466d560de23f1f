use Rattle.std.proofs.Common.{IsTrue, ◌↔◌, subst}
use Rattle.join_book.specs.Books.{BookParts, IsFull}
use Rattle.forkjoin_sched.proofs.pool.Pool.is_full.Goals as goal

pub returns : goal.returns
returns c = subst (λ (b : BookParts). IsTrue c.is_full.result ↔ IsFull b) c.book.ensures c.is_full.ensures
