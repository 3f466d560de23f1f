-- Pieces of a round in both programs: those of the spread program are apart iff those of the given one clash on
-- accumulating arrays only.
use Rattle.std.proofs.Common.{◌≡◌, ◌≢◌, ℕ, zero, suc, ◌+◌, ◌*◌, ◌<◌, ◌≤◌, true, false, List, [], ◌∷◌, ◌++◌, Some, refl, subst, arith, ◌⊎◌, inl, inr, ⊎_elim}
use Rattle.std.specs.Prelude.{◌↔◌, slice_get}
use Rattle.std.proofs.Math.Nat.{mul-le-mul_right}
use Rattle.std.proofs.lemmas.Bool.{both_ways, cases_lt}
use Rattle.array_meaning.specs.Stores.{Arrays, cells_of}
use Rattle.array_meaning.specs.Steps.{Steps}
use Rattle.array_meaning.specs.Touch.{walk, IsApart, reads_of, changes_of}
use Rattle.array_meaning.specs.Overlap.{overlaps, IsClash}
use Rattle.array_meaning.specs.Sites.{Site, AreRoundsApart, AreSitesApart}
use Rattle.array_meaning.proofs.OverlapLemmas.{is_false, apart_of_clear, clear_of_apart}
use Rattle.array_meaning.proofs.ClashCells.{clash_of, passes_of}
use Rattle.spread_laws.specs.Apart.{IsSumCell, IsApartButForSums, AreRoundsApartButForSums, AreSitesApartButForSums}
use Rattle.spread_laws.proofs.Owing.{Tally, AreLaid, one_or_clear}
use Rattle.spread_laws.proofs.Tracks.{IsInRow, Tracks}

pub both_sides : {A A' B B' : Type 0} → (A ↔ A') → (B ↔ B') → (A × B) ↔ (A' × B')
both_sides f g = (λ p. (f.0 p.0, g.0 p.1), λ p. (f.1 p.0, g.1 p.1))

-- Two rows of one array share no cell.
rows_differ : (first size i j c : ℕ) → i ≢ j → first + i * size ≤ c → c < first + (i * size + size) → first + j * size ≤ c → c < first + (j * size + size) → ⊥
rows_differ first size i j c other from below from' below' = ⊎_elim
    (λ l. let m : (i + 1) * size ≤ j * size = mul-le-mul_right size (let le : i + 1 ≤ j = omega (arith, l) in le) in omega (arith, m, below, from'))
    (λ r. let m : (j + 1) * size ≤ i * size = mul-le-mul_right size (let le : j + 1 ≤ i = omega (arith, r, other) in le) in omega (arith, m, below', from))
    (cases_lt i j)

module _ (old new : Arrays) (end rows : ℕ) (ts : List Tally) (laid : AreLaid (cells_of old) end rows ts) where
  -- Piece i of the spread program tracks piece i of the given one, in row k + i.
  abbrev pub AreTracked : ℕ → List Steps → List Steps → Type 0
  AreTracked k [] [] = Unit {0}
  AreTracked k [] (q ∷ qs) = ⊥
  AreTracked k (p ∷ ps) [] = ⊥
  AreTracked k (p ∷ ps) (q ∷ qs) = Tracks old new rows ts k (walk old p) (walk new q) × AreTracked (k + 1) ps qs

  record IsSpread (k i : ℕ) (qs : List Steps) (p : Steps) : Type 0 where
    pub piece : Steps
    pub at : slice_get qs i ≡ Some piece
    pub tracks : Tracks old new rows ts (k + i) (walk old p) (walk new piece)

  record IsGiven (k i : ℕ) (ps : List Steps) (q : Steps) : Type 0 where
    pub piece : Steps
    pub at : slice_get ps i ≡ Some piece
    pub tracks : Tracks old new rows ts (k + i) (walk old piece) (walk new q)

  spread_piece : (k : ℕ) (ps qs : List Steps) → AreTracked k ps qs → (i : ℕ) (p : Steps) → slice_get ps i ≡ Some p → IsSpread k i qs p
  spread_piece k [] [] h i p e = cc
  spread_piece k [] (q ∷ qs) h i p e = absurd h
  spread_piece k (x ∷ ps) [] h i p e = absurd h
  spread_piece k (x ∷ ps) (q ∷ qs) h zero p e =
      let same : x ≡ p = cc in
      let none : k ≡ k + 0 = omega arith in
      record { piece = q; at = refl; tracks = subst (λ z. Tracks old new rows ts (k + 0) (walk old z) (walk new q)) same (subst (λ (n : ℕ). Tracks old new rows ts n (walk old x) (walk new q)) none h.0) }
  spread_piece k (x ∷ ps) (q ∷ qs) h (suc i) p e =
      let r = spread_piece (k + 1) ps qs h.1 i p e in
      let next : k + 1 + i ≡ k + suc i = omega arith in
      record { piece = r.piece; at = r.at; tracks = subst (λ (n : ℕ). Tracks old new rows ts n (walk old p) (walk new r.piece)) next r.tracks }

  given_piece : (k : ℕ) (ps qs : List Steps) → AreTracked k ps qs → (i : ℕ) (q : Steps) → slice_get qs i ≡ Some q → IsGiven k i ps q
  given_piece k [] [] h i q e = cc
  given_piece k [] (x ∷ qs) h i q e = absurd h
  given_piece k (p ∷ ps) [] h i q e = absurd h
  given_piece k (p ∷ ps) (x ∷ qs) h zero q e =
      let same : x ≡ q = cc in
      let none : k ≡ k + 0 = omega arith in
      record { piece = p; at = refl; tracks = subst (λ z. Tracks old new rows ts (k + 0) (walk old p) (walk new z)) same (subst (λ (n : ℕ). Tracks old new rows ts n (walk old p) (walk new x)) none h.0) }
  given_piece k (p ∷ ps) (x ∷ qs) h (suc i) q e =
      let r = given_piece (k + 1) ps qs h.1 i q e in
      let next : k + 1 + i ≡ k + suc i = omega arith in
      record { piece = r.piece; at = r.at; tracks = subst (λ (n : ℕ). Tracks old new rows ts n (walk old r.piece) (walk new q)) next r.tracks }

  -- No cell is in two rows.
  one_row : (i j c : ℕ) → i ≢ j → IsInRow old new rows ts i c → IsInRow old new rows ts j c → ⊥
  one_row i j c other x y =
      let a = x.tally in
      let b = y.tally in
      let from = x.from in
      let below = x.below in
      let from' = y.from in
      let below' = y.below in
      ⊎_elim
      (λ is. rows_differ a.first a.size i j c other from below
      (subst (λ (q : Tally). q.first + j * q.size ≤ c) is from') (subst (λ (q : Tally). c < q.first + (j * q.size + q.size)) is below'))
      (λ clear.
      let mine : (i + 1) * a.size ≤ rows * a.size = mul-le-mul_right a.size (let le : i + 1 ≤ rows = (let q = x.less in omega (arith, q)) in le) in
      let yours : (j + 1) * b.size ≤ rows * b.size = mul-le-mul_right b.size (let le : j + 1 ≤ rows = (let q = y.less in omega (arith, q)) in le) in
      ⊎_elim (λ l. omega (arith, l, mine, below, from')) (λ r. omega (arith, r, yours, below', from)) clear.cells)
      (one_or_clear rows ts laid.clear a b x.member y.member)

  -- A cell of a row is no cell of the given program.
  not_given : (k c : ℕ) → c < cells_of old → IsInRow old new rows ts k c → ⊥
  not_given k c low x = let high = laid.above x.tally x.member in let from = x.from in omega (arith, low, high, from)

  module _ (ps qs : List Steps) (tracked : AreTracked 0 ps qs) where
    Touched : Arrays → Steps → ℕ → Type 0
    Touched arrays p c = reads_of arrays p c ⊎ changes_of arrays p c

    clash_kept : (c : ℕ) → IsClash old ps c → IsSumCell old c ⊎ IsClash new qs c
    clash_kept c clash =
        let a = spread_piece 0 ps qs tracked clash.i clash.one clash.at_i in
        let b = spread_piece 0 ps qs tracked clash.j clash.other clash.at_j in
        let touches : IsSumCell old c ⊎ (reads_of new b.piece c ⊎ changes_of new b.piece c) = ⊎_elim
        (λ r. ⊎_elim (λ s. inl s) (λ t. inr (inl t)) (b.tracks.from false c r))
        (λ w. ⊎_elim (λ s. inl s) (λ t. inr (inr t)) (b.tracks.from true c w))
        clash.touches in
        ⊎_elim (λ s. inl s) (λ changes. ⊎_elim (λ s. inl s) (λ t. inr (record {
          i = clash.i;
          j = clash.j;
          one = a.piece;
          other = b.piece;
          different = clash.different;
          at_i = a.at;
          at_j = b.at;
          changes = changes;
          touches = t;
        })) touches) (a.tracks.from true c clash.changes)

    record IsTouched (k c : ℕ) (p : Steps) : Type 0 where
      pub touched : reads_of old p c ⊎ changes_of old p c
      pub low : c < cells_of old

    -- A clash in the spread program is one in the given program, and not on an accumulating array.
    clash_given : (c : ℕ) → IsClash new qs c → IsClash old ps c × (IsSumCell old c → ⊥)
    clash_given c clash =
        let a = given_piece 0 ps qs tracked clash.i clash.one clash.at_i in
        let b = given_piece 0 ps qs tracked clash.j clash.other clash.at_j in
        let different : 0 + clash.i ≢ 0 + clash.j = λ e. clash.different (omega (arith, e)) in
        let touches : IsTouched clash.j c b.piece ⊎ IsInRow old new rows ts (0 + clash.j) c = ⊎_elim
        (λ r. ⊎_elim (λ t. inl (record { touched = inl t.0; low = t.1 })) (λ t. inr t) (b.tracks.to false c r))
        (λ w. ⊎_elim (λ t. inl (record { touched = inr t.0; low = t.1 })) (λ t. inr t) (b.tracks.to true c w))
        clash.touches in
        ⊎_elim
        (λ changes. ⊎_elim
        (λ t. (
          record {
            i = clash.i;
            j = clash.j;
            one = a.piece;
            other = b.piece;
            different = clash.different;
            at_i = a.at;
            at_j = b.at;
            changes = changes.0;
            touches = t.touched;
          },
          changes.2,
        ))
        (λ row. absurd (not_given (0 + clash.j) c changes.1 row)) touches)
        (λ row. ⊎_elim (λ t. absurd (not_given (0 + clash.i) c t.low row)) (λ other. absurd (one_row (0 + clash.i) (0 + clash.j) c different row other)) touches)
        (a.tracks.to true c clash.changes)

    pub round_agrees : IsApart new qs ↔ IsApartButForSums old ps
    round_agrees = (
      λ apart c clash. ⊎_elim (λ s. s)
          (λ other. absurd (both_ways (overlaps new false false qs c) (clear_of_apart new qs apart c) (passes_of new c qs other)))
          (clash_kept c clash),
      λ sums. apart_of_clear new qs (λ c. is_false (overlaps new false false qs c) (λ e.
          let given = clash_given c (clash_of new c qs e) in
          given.1 (sums c given.0))),
    )

-- ---- sites

module _ (old new : Arrays) where
  -- Sites of the given program, and those of the spread one: the rounds agree.
  abbrev pub AreAlike : List Site → List Site → Type 0
  AreAlike [] [] = Unit {0}
  AreAlike [] (y ∷ ys) = ⊥
  AreAlike (x ∷ xs) [] = ⊥
  AreAlike (x ∷ xs) (y ∷ ys) = (AreRoundsApart new y.rounds ↔ AreRoundsApartButForSums old x.rounds) × AreAlike xs ys

  pub join_alike : (xs xs' ys ys' : List Site) → AreAlike xs xs' → AreAlike ys ys' → AreAlike (xs ++ ys) (xs' ++ ys')
  join_alike [] [] ys ys' f g = g
  join_alike [] (y ∷ xs') ys ys' f g = absurd f
  join_alike (x ∷ xs) [] ys ys' f g = absurd f
  join_alike (x ∷ xs) (y ∷ xs') ys ys' f g = (f.0, join_alike xs xs' ys ys' f.1 g)

  pub sites_agree : (xs ys : List Site) → AreAlike xs ys → AreSitesApart new ys ↔ AreSitesApartButForSums old xs
  sites_agree [] [] h = (λ p. tt, λ p. tt)
  sites_agree [] (y ∷ ys) h = absurd h
  sites_agree (x ∷ xs) [] h = absurd h
  sites_agree (x ∷ xs) (y ∷ ys) h = both_sides h.0 (sites_agree xs ys h.1)
