use Rattle.std.proofs.Common.{◌≡◌, Some, slice_get, ap, ◌∙◌, sym}
use borrow.Author.Count.{below_more}
use Rattle.std.proofs.lemmas.Bool.{false≢true}
use Rattle.join_book.specs.Books.{Failed}
use Rattle.join_book.proofs.BookLemmas.{seen_mark}
use Rattle.join_book.proofs.book.Book.has_failed.Goals as goal

pub loop-place-preserved : goal.loop-place-preserved
loop-place-preserved c =
    let seen = seen_mark c.self.inside.places.items c.deref-place-items.result.now c.args.self.now.places c.loop-place.place-index c.place-item.result (ap (λ b. b.places) c.self.view_is) c.deref-place-items.ensures.value c.loop-place-test.true c.place-item.is in
    below_more (λ i. slice_get c.args.self.now.places i ≡ Some Failed → ⊥) c.loop-place.place-index c.loop-place.invariant
    (λ at. false≢true (sym c.if-is_failed.false ∙ c.is_failed.ensures.1 (cc (seen, at))))
