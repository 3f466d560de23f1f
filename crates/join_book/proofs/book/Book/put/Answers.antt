use Rattle.std.proofs.Common.{ap, ◌∙◌, sym, subst, refl}
use Rattle.std.proofs.lemmas.Bool.{false≢true}
use Rattle.array_jobs.specs.Jobs.{JobParts}
use Rattle.join_book.specs.Books.{HasPlaceFor, IsMarked, Open}
use Rattle.join_book.proofs.book.Book.put.Goals as goal

pub returns-then-not-has_place_for : goal.returns-then-not-has_place_for
returns-then-not-has_place_for c =
    let job = ap (λ p. p.job) c.piece.view_is in (
      λ has. false≢true (sym c.if-not-has_place_for.true ∙ c.has_place_for.ensures.1 (subst (HasPlaceFor c.args.self.now) (sym job) has)),
      refl,
      refl,
    )

pub returns-then-not-is_open : goal.returns-then-not-is_open
returns-then-not-is_open c =
    let job = ap (λ p. p.job) c.piece.view_is in
    let place = ap (λ p. p.job.place) c.piece-inside.view_is ∙ ap (λ (j : JobParts). j.place) job in (
      subst (HasPlaceFor c.args.self.now) job (c.has_place_for.ensures.0 c.if-not-has_place_for.false),
      λ at. false≢true (sym c.if-not-is_open.true ∙ c.is_open.ensures.1 (subst (λ n. IsMarked c.args.self.now n Open) (sym place) at)),
      refl,
      refl,
    )

pub take_in-requires-clause-place : goal.take_in-requires-clause-place
take_in-requires-clause-place c =
    let job = ap (λ p. p.job) c.piece.view_is in
    subst (HasPlaceFor c.args.self.now) job (c.has_place_for.ensures.0 c.if-not-has_place_for.false)

pub returns : goal.returns
returns c =
    let job = ap (λ p. p.job) c.piece.view_is in
    let place = ap (λ p. p.job.place) c.piece-inside.view_is ∙ ap (λ (j : JobParts). j.place) job in (
      subst (HasPlaceFor c.args.self.now) job (c.has_place_for.ensures.0 c.if-not-has_place_for.false),
      subst (λ n. IsMarked c.args.self.now n Open) place (c.is_open.ensures.0 c.if-not-is_open.false),
      c.take_in.ensures,
    )
