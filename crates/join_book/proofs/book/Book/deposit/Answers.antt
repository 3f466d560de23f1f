use Rattle.std.proofs.Common.{◌≡◌, ℕ, ap, ◌∙◌, sym, subst, refl}
use Rattle.std.proofs.lemmas.Bool.{false≢true}
use Rattle.array_jobs.specs.Jobs.{JobParts}
use Rattle.join_book.specs.Books.{IsPlaceOf, IsMarked, Open}
use Rattle.join_book.proofs.book.Book.deposit.Goals as goal

pub returns-then-not-is_place_of : goal.returns-then-not-is_place_of
returns-then-not-is_place_of c =
    let place = ap (λ p. p.job.place) c.piece-inside.view_is in
    let job = ap (λ p. p.job) c.piece.view_is in
    let P : ℕ → JobParts → Type 0 = λ n j. IsPlaceOf c.args.self.now n j → ⊥ in
    let no_own : P c.piece-inside.inside.0.0.place c.piece.inside.job = λ is. false≢true (sym c.if-not-is_place_of.true ∙ c.is_place_of.ensures.own.1 is) in
    let no_own' = subst (λ n. P n c.piece.inside.job) place no_own in
    let Q : JobParts → Type 0 = λ j. ((IsPlaceOf c.args.self.now j.place j → ⊥) × ((i : ℕ) → IsPlaceOf c.args.self.now i j → i ≡ j.place)) in
    let all = subst Q job (no_own', c.is_place_of.ensures.alone) in (
      λ i is.
          let R : ℕ → Type 0 = λ n. IsPlaceOf c.args.self.now n c.args.piece.job in
          all.0 (subst R (all.1 i is) is),
      refl,
      refl,
    )

pub returns-then-not-is_open : goal.returns-then-not-is_open
returns-then-not-is_open c =
    let place = ap (λ p. p.job.place) c.piece-inside.view_is in
    let job = ap (λ p. p.job) c.piece.view_is in
    let there = c.is_place_of.ensures.own.0 c.if-not-is_place_of.false in
    let there' = subst (λ n. IsPlaceOf c.args.self.now n c.piece.inside.job) place there in
    let there'' = subst (λ (j : JobParts). IsPlaceOf c.args.self.now j.place j) job there' in
    let closed = λ (is : IsMarked c.args.self.now c.piece-inside.inside.0.0.place Open). false≢true (sym c.if-not-is_open.true ∙ c.is_open.ensures.1 is) in
    let closed' = subst (λ n. IsMarked c.args.self.now n Open → ⊥) place closed in
    let closed'' = subst (λ (j : JobParts). IsMarked c.args.self.now j.place Open → ⊥) job closed' in
    (there'', closed'', refl, refl)

pub keep-requires-clause-own : goal.keep-requires-clause-own
keep-requires-clause-own c =
    let place = ap (λ p. p.job.place) c.piece-inside.view_is in
    let job = ap (λ p. p.job) c.piece.view_is in
    let there = c.is_place_of.ensures.own.0 c.if-not-is_place_of.false in
    let there' = subst (λ n. IsPlaceOf c.args.self.now n c.piece.inside.job) place there in
    subst (λ (j : JobParts). IsPlaceOf c.args.self.now j.place j) job there'

pub keep-requires-clause-open : goal.keep-requires-clause-open
keep-requires-clause-open c =
    let place = ap (λ p. p.job.place) c.piece-inside.view_is in
    let job = ap (λ p. p.job.place) c.piece.view_is in
    let at = c.is_open.ensures.0 c.if-not-is_open.false in
    subst (λ n. IsMarked c.args.self.now n Open) (place ∙ job) at

pub returns : goal.returns
returns c =
    let place = ap (λ p. p.job.place) c.piece-inside.view_is in
    let job = ap (λ p. p.job) c.piece.view_is in
    let there = c.is_place_of.ensures.own.0 c.if-not-is_place_of.false in
    let there' = subst (λ n. IsPlaceOf c.args.self.now n c.piece.inside.job) place there in
    let there'' = subst (λ (j : JobParts). IsPlaceOf c.args.self.now j.place j) job there' in
    let at = c.is_open.ensures.0 c.if-not-is_open.false in
    let at' = subst (λ n. IsMarked c.args.self.now n Open) (place ∙ ap (λ j. j.place) job) at in
    (there'', at', c.keep.ensures)
