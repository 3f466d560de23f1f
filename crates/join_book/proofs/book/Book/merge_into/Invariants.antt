use Rattle.join_book.proofs.BookLemmas.{IsMerging}
use Rattle.join_book.proofs.book.Book.merge_into.Given as goal

abbrev pub invariant-loop-place : goal.invariant-loop-place
invariant-loop-place l = IsMerging (record { jobs = l.self.jobs; places = l.self.places }) l.place-items l.place-index l.store l.fn.store
