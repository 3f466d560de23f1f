use Rattle.std.proofs.Common.{ap, sym, [], ◌≡◌, ◌+◌, ◌<◌, ◌∙◌, subst, length, List, get_or, arith}
use Rattle.std.proofs.lemmas.List.{length-map}
use Rattle.array_meaning.specs.Pieces.{last_writes, merged}
use Rattle.array_eval.specs.Traces.{marked}
use Rattle.join_book.specs.declared.place.Place.{Place}
use Rattle.join_book.specs.declared.place.Place.TheVariants as variant
use Rattle.join_book.specs.Books.{BookParts, HaveCells, mark_of, filled_pieces}
use Rattle.join_book.proofs.BookLemmas.{IsMerging, begins, merge_filled, merge_unfilled, ends, merged_from, all_filled, merged_last, carried}
use Rattle.join_book.proofs.book.Book.merge_into.Goals as goal
use Rattle.join_book.proofs.book.Book.merge_into.Goals.{in-Filled, in_default}

pub loop-place-init : goal.loop-place-init
loop-place-init c = begins c.args.self.now c.self.inside.jobs.items c.self.inside.places.items c.deref-place-items.result.now c.args.store.now c.self.view_is c.deref-place-items.ensures.value c.requires.marks

pub loop-place-preserved : goal.loop-place-preserved
loop-place-preserved c =
    let jobs = c.self.inside.jobs.items in
    let places = c.self.inside.places.items in
    let i = c.loop-place.place-index in
    let before = c.loop-place.store in
    let after = c.match-place.store in
    let first = c.args.store.now in
    elim c.match-place.branch [
      | in-Filled w ↦
          let P : BookParts → List Place → Type 0 = λ b xs. HaveCells b (length first.cells) → i < length xs →
          variant.Filled w.in-Filled.written ≡ get_or xs i (variant.Filled w.in-Filled.written) →
          IsMerging b xs i before first → IsMerging b xs (i + 1) after first in
          let Q : Place → Type 0 = λ p. p ≡ get_or c.deref-place-items.result.now i p in
          carried jobs places c.args.self.now c.deref-place-items.result.now P c.self.view_is c.deref-place-items.ensures.value
          (λ have h is merging. merge_filled jobs places i w.in-Filled.written before after first c.self.invariant have h is (w.store-is ∙ w.merge.ensures.noted) (λ below. ap marked w.store-is ∙ w.merge.ensures.laid below) merging)
          c.requires.cells c.loop-place-test.true (subst Q w.in-Filled.is c.place-item.is) c.loop-place.invariant
      | in_default w ↦
          let P : BookParts → List Place → Type 0 = λ b xs. i < length xs → c.place-item.result ≡ get_or xs i c.place-item.result →
          IsMerging b xs i before first → IsMerging b xs (i + 1) after first in
          carried jobs places c.args.self.now c.deref-place-items.result.now P c.self.view_is c.deref-place-items.ensures.value
          (λ h is merging. merge_unfilled jobs places i c.place-item.result before after first c.self.invariant h is w.in_default.not-Filled w.store-is merging)
          c.loop-place-test.true c.place-item.is c.loop-place.invariant
    ]

pub returns-clause-filled : goal.returns-clause-filled
returns-clause-filled c = merged_from c.args.self.now c.loop-place.store c.args.store.now c.requires.unmarked (ends c.args.self.now c.deref-place-items.result.now c.loop-place.place-index c.loop-place.store c.args.store.now (let end = c.loop-place-test.false in omega arith) c.loop-place.invariant)

pub returns-clause-all : goal.returns-clause-all
returns-clause-all c = λ full fine.
    let each : length c.args.self.now.places ≡ length c.args.self.now.jobs = sym (ap (λ b. length b.places) c.self.view_is) ∙ length-map c.self.inside.places.items mark_of ∙ c.self.invariant.each ∙ ap (λ b. length b.jobs) c.self.view_is in
    let filled = all_filled c.args.self.now.jobs c.args.self.now.places each full (λ i at. fine (i, at)) in
    let pieces = filled_pieces c.args.self.now.jobs c.args.self.now.places in
    let whole = merged_from c.args.self.now c.loop-place.store c.args.store.now c.requires.unmarked (ends c.args.self.now c.deref-place-items.result.now c.loop-place.place-index c.loop-place.store c.args.store.now (let end = c.loop-place-test.false in omega arith) c.loop-place.invariant) in
    ap last_writes whole ∙ merged_last pieces ∙ ap (λ ps. merged ps []) filled
