use Rattle.std.proofs.Common.{refl, length, ◌≡◌, Some, slice_get, arith, ap, ◌∙◌, sym}
use borrow.Author.Count.{below_more}
use Rattle.std.proofs.lemmas.Bool.{false≢true}
use Rattle.std.proofs.lemmas.List.{length-map}
use Rattle.std.proofs.lemmas.Option.{slice_get_within}
use Rattle.join_book.specs.Books.{Open, mark_of}
use Rattle.join_book.proofs.BookLemmas.{seen_mark}
use Rattle.join_book.proofs.book.Book.is_full.Goals as goal

pub loop-place-preserved : goal.loop-place-preserved
loop-place-preserved c =
    let seen = seen_mark c.self.inside.places.items c.deref-place-items.result.now c.args.self.now.places c.loop-place.place-index c.place-item.result (ap (λ b. b.places) c.self.view_is) c.deref-place-items.ensures.value c.loop-place-test.true c.place-item.is in
    below_more (λ i. slice_get c.args.self.now.places i ≡ Some Open → ⊥) c.loop-place.place-index c.loop-place.invariant
    (λ at. false≢true (sym c.if-is_open.false ∙ c.is_open.ensures.1 (cc (seen, at))))

pub returns-then-is_open : goal.returns-then-is_open
returns-then-is_open c =
    let seen = seen_mark c.self.inside.places.items c.deref-place-items.result.now c.args.self.now.places c.loop-place.place-index c.place-item.result (ap (λ b. b.places) c.self.view_is) c.deref-place-items.ensures.value c.loop-place-test.true c.place-item.is in
    (λ t. absurd (false≢true t), λ full. absurd (full c.loop-place.place-index (seen ∙ ap Some (c.is_open.ensures.0 c.if-is_open.true))))

pub returns : goal.returns
returns c = (
  λ t i at. c.loop-place.invariant i
      (let below = slice_get_within c.args.self.now.places i Open at in
      let marks = ap (λ b. length b.places) c.self.view_is in
      let same = length-map c.self.inside.places.items mark_of in
      let read = ap length c.deref-place-items.ensures.value in
      let end = c.loop-place-test.false in omega arith) at,
  λ full. refl,
)
