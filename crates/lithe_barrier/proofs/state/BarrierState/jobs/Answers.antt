use Rattle.std.proofs.Common.{subst, ◌<◌, length}
use Rattle.join_book.specs.Books.{BookParts}
use Rattle.join_book.proofs.BookLemmas.{group_some}
use Rattle.lithe_barrier.proofs.state.BarrierState.jobs.Goals as goal

pub returns-clause-some : goal.returns-clause-some
returns-clause-some c = subst (λ (b : BookParts). 0 < length b.jobs) c.self.view_is (group_some _ c.self.invariant.group)
