use Rattle.std.proofs.Common.{◌≡◌, ℕ, ap, ◌∙◌, subst, Some, slice_get, length, arith}
use Rattle.std.proofs.lemmas.List.{length-map}
use Rattle.std.proofs.lemmas.Option.{slice_get_within}
use Rattle.join_book.specs.declared.place.Place.TheVariants as variant
use Rattle.join_book.specs.Books.{mark_of, Open}
use Rattle.join_book.proofs.BookLemmas.{kept_filled, marked_same}
use Rattle.join_book.proofs.book.Book.keep.Goals as goal

pub invariant_of-self : goal.invariant_of-self
invariant_of-self c =
    let own = c.requires.own in
    let jobs = ap (λ b. b.jobs) c.self.view_is in
    let right = c.piece.invariant in
    let job = ap (λ p. p.job) c.piece.view_is in
    let place = c.from.ensures ∙ ap (λ j. j.place) c.job.view_is ∙ ap (λ j. j.place) job in
    kept_filled c.self.inside.jobs.items c.self.inside.places.items c.from.result c.piece.inside.written c.self.invariant
    (λ there at.
    let P : ℕ → Type 0 = λ n. slice_get c.self.inside.jobs.items n ≡ Some there in
    let at' = subst P place at in
    let same : own.0 ≡ there = cc (own.1, jobs, at') in
    let trees = own.2 in cc)

pub returns : goal.returns
returns c =
    let job = ap (λ p. p.job) c.piece.view_is in
    let place = c.from.ensures ∙ ap (λ j. j.place) c.job.view_is ∙ ap (λ j. j.place) job in
    marked_same c.self.inside.jobs.items c.self.inside.places.items c.args.self.now c.from.result c.args.piece.job.place (variant.Filled c.piece.inside.written) c.self.view_is place

pub index_mut-requires : goal.index_mut-requires
index_mut-requires c =
    let below = slice_get_within c.args.self.now.places c.args.piece.job.place Open c.requires.open in
    let marks = ap (λ b. length b.places) c.self.view_is in
    let same = length-map c.self.inside.places.items mark_of in
    let job = ap (λ p. p.job) c.piece.view_is in
    let place = c.from.ensures ∙ ap (λ j. j.place) c.job.view_is ∙ ap (λ j. j.place) job in omega arith
