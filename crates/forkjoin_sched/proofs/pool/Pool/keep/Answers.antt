use Rattle.std.proofs.Common.{sym, ap, ◌∙◌, subst}
use Rattle.join_book.specs.Books.{BookParts, IsPlaceOf}
use Rattle.forkjoin_sched.proofs.Starts.{still_kept}
use Rattle.forkjoin_sched.proofs.pool.Pool.keep.Goals as goal

pub keep-requires-clause-own : goal.keep-requires-clause-own
keep-requires-clause-own c =
    let told = ap (λ p. p.book) c.self.view_is in
    subst (λ (b : BookParts). IsPlaceOf b c.args.piece.job.place c.args.piece.job) (sym (c.acquire-book.ensures.got ∙ told)) c.requires.own

pub invariant_of-self : goal.invariant_of-self
invariant_of-self c =
    still_kept c.self.inside.knows_start c.self.inside.book.possession c.acquire-book.new.mutex.possession c.release.new.self.possession c.acquire-book.result c.keep.new.self c.release.result
    c.self.invariant c.acquire-book.ensures.got c.acquire-book.ensures.held (ap (λ (b : BookParts). b.jobs) c.keep.ensures) c.release.ensures.does
