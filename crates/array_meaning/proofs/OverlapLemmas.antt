-- No cell passes the overlap test iff each two pieces are separate.
use Rattle.std.proofs.Common.{◌≡◌, ℕ, ◌+◌, ◌<◌, ◌≤◌, Bool, true, false, List, [], ◌∷◌, Option, Some, None, ℤ, refl, sym, ap, ◌∙◌, ◌⊎◌, inl, inr, ⊎_elim, arith}
use Rattle.std.specs.Prelude.{not, ◌&&◌, ◌||◌, nat_lt, nat_le}
use Rattle.std.proofs.lemmas.Bool.{false≢true, and_parts}
use Rattle.std.proofs.lemmas.Bool.Decides.{nat_tests}
use Rattle.array_meaning.specs.Stores.{Arrays, base_of, length_of}
use Rattle.array_meaning.specs.Steps.{Steps}
use Rattle.array_meaning.specs.Touch.{Visit, walk, Covers, Touches, IsSeparateFrom, IsApart}
use Rattle.array_meaning.specs.Overlap.{covers, changed, read, overlaps}

pub or_left : (a b : Bool) → a ≡ true → (a || b) ≡ true
or_left true b e = refl
or_left false b e = absurd (false≢true e)

pub or_right : (a b : Bool) → b ≡ true → (a || b) ≡ true
or_right true b e = refl
or_right false b e = e

pub or_either : (a b : Bool) → (a || b) ≡ true → (a ≡ true) ⊎ (b ≡ true)
or_either true b e = inl refl
or_either false b e = inr e

pub or_none : (a b : Bool) → (a || b) ≡ false → (a ≡ false) × (b ≡ false)
or_none true b e = absurd (false≢true (sym e))
or_none false b e = (refl, e)

pub and_none : (a b : Bool) → (a && b) ≡ false → a ≡ true → b ≡ false
and_none true b e h = e
and_none false b e h = absurd (false≢true h)

none_and : (a b : Bool) → (a ≡ true → b ≡ false) → (a && b) ≡ false
none_and true b h = h refl
none_and false b h = refl

pub is_false : (a : Bool) → (a ≡ true → ⊥) → a ≡ false
is_false true h = absurd (h refl)
is_false false h = refl

pub both_and : (a b : Bool) → a ≡ true → b ≡ true → (a && b) ≡ true
both_and true b e f = f
both_and false b e f = absurd (false≢true e)

not_true : (a : Bool) → not a ≡ true → a ≡ false
not_true true e = absurd (false≢true e)
not_true false e = refl

in_range : (a b c : ℕ) → (nat_le a c && nat_lt c b) ≡ true → (a ≤ c) × (c < b)
in_range a b c e = let both = and_parts (nat_le a c) (nat_lt c b) e in let le = both.0 in let lt = both.1 in (grind (arith, nat_tests), grind (arith, nat_tests))

range_in : (a b c : ℕ) → a ≤ c → c < b → (nat_le a c && nat_lt c b) ≡ true
range_in a b c le lt = both_and (nat_le a c) (nat_lt c b) (grind (arith, nat_tests)) (grind (arith, nat_tests))

none_or : (a b : Bool) → a ≡ false → b ≡ false → (a || b) ≡ false
none_or true b e f = absurd (false≢true (sym e))
none_or false b e f = f

pub fewer : (x y a a' b b' : Bool) → (x && ((b || b') || (a || a')) || y && (a || a')) ≡ false →
    ((x && (b || a) || y && a) ≡ false) × ((x && (b' || a') || y && a') ≡ false)
fewer x y a a' b b' e =
    let parts = or_none (x && ((b || b') || (a || a'))) (y && (a || a')) e in
    let bs = λ (h : x ≡ true). or_none b b' (or_none (b || b') (a || a') (and_none x ((b || b') || (a || a')) parts.0 h)).0 in
    let as' = λ (h : x ≡ true). or_none a a' (or_none (b || b') (a || a') (and_none x ((b || b') || (a || a')) parts.0 h)).1 in
    let ys = λ (h : y ≡ true). or_none a a' (and_none y (a || a') parts.1 h) in (
      none_or (x && (b || a)) (y && a) (none_and x (b || a) (λ h. none_or b a (bs h).0 (as' h).0)) (none_and y a (λ h. (ys h).0)),
      none_or (x && (b' || a')) (y && a') (none_and x (b' || a') (λ h. none_or b' a' (bs h).1 (as' h).1)) (none_and y a' (λ h. (ys h).1)),
    )

pub more : (x y a a' b b' : Bool) → (x && (b || a) || y && a) ≡ false → (x && (b' || a') || y && a') ≡ false →
    (x && ((b || b') || (a || a')) || y && (a || a')) ≡ false
more x y a a' b b' e f =
    let p = or_none (x && (b || a)) (y && a) e in
    let q = or_none (x && (b' || a')) (y && a') f in
    none_or (x && ((b || b') || (a || a'))) (y && (a || a'))
    (none_and x ((b || b') || (a || a')) (λ h.
    let one = or_none b a (and_none x (b || a) p.0 h) in
    let two = or_none b' a' (and_none x (b' || a') q.0 h) in
    none_or (b || b') (a || a') (none_or b b' one.0 two.0) (none_or a a' one.1 two.1)))
    (none_and y (a || a') (λ h. none_or a a' (and_none y a p.1 h) (and_none y a' q.1 h)))

module _ (arrays : Arrays) where
  covers_to : (name : List ℕ) (index : Option ℤ) (c : ℕ) → covers arrays name index c ≡ true → Covers arrays name index c
  covers_to name (Some i) c e = grind (arith, nat_tests)
  covers_to name None c e = in_range (base_of arrays name) (base_of arrays name + length_of arrays name) c e

  covers_from : (name : List ℕ) (index : Option ℤ) (c : ℕ) → Covers arrays name index c → covers arrays name index c ≡ true
  covers_from name (Some i) c h = grind (arith, nat_tests)
  covers_from name None c h = range_in (base_of arrays name) (base_of arrays name + length_of arrays name) c h.0 h.1

  pub changed_to : (vs : List Visit) (c : ℕ) → changed arrays vs c ≡ true → Touches arrays true vs c
  changed_to [] c e = absurd (false≢true e)
  changed_to (v ∷ vs) c e = ⊎_elim
      (λ h. let both = and_parts v.writes (covers arrays v.array v.index c) h in inl (both.0, covers_to v.array v.index c both.1))
      (λ t. inr (changed_to vs c t))
      (or_either (v.writes && covers arrays v.array v.index c) (changed arrays vs c) e)

  pub changed_from : (vs : List Visit) (c : ℕ) → Touches arrays true vs c → changed arrays vs c ≡ true
  changed_from [] c h = absurd h
  changed_from (v ∷ vs) c (inl h) = or_left (v.writes && covers arrays v.array v.index c) (changed arrays vs c) (both_and v.writes (covers arrays v.array v.index c) h.0 (covers_from v.array v.index c h.1))
  changed_from (v ∷ vs) c (inr h) = or_right (v.writes && covers arrays v.array v.index c) (changed arrays vs c) (changed_from vs c h)

  pub read_to : (vs : List Visit) (c : ℕ) → read arrays vs c ≡ true → Touches arrays false vs c
  read_to [] c e = absurd (false≢true e)
  read_to (v ∷ vs) c e = ⊎_elim
      (λ h. let both = and_parts (not v.writes) (covers arrays v.array v.index c) h in inl (not_true v.writes both.0, covers_to v.array v.index c both.1))
      (λ t. inr (read_to vs c t))
      (or_either (not v.writes && covers arrays v.array v.index c) (read arrays vs c) e)

  pub read_from : (vs : List Visit) (c : ℕ) → Touches arrays false vs c → read arrays vs c ≡ true
  read_from [] c h = absurd h
  read_from (v ∷ vs) c (inl h) = or_left (not v.writes && covers arrays v.array v.index c) (read arrays vs c) (both_and (not v.writes) (covers arrays v.array v.index c) (ap not h.0) (covers_from v.array v.index c h.1))
  read_from (v ∷ vs) c (inr h) = or_right (not v.writes && covers arrays v.array v.index c) (read arrays vs c) (read_from vs c h)

  -- None of these changes what was changed or read, or reads what was changed.
  abbrev Free : (ℕ → Bool) → (ℕ → Bool) → List Steps → Type 0
  Free w r [] = Unit {0}
  Free w r (p ∷ ps) = ((c : ℕ) → (changed arrays (walk arrays p) c && (r c || w c) || read arrays (walk arrays p) c && w c) ≡ false) × Free w r ps

  -- Pieces that are free of two sets of marks are free of each.
  weaken : (w w' r r' : ℕ → Bool) (ps : List Steps) → Free (λ c. w c || w' c) (λ c. r c || r' c) ps → Free w r ps × Free w' r' ps
  weaken w w' r r' [] h = (tt, tt)
  weaken w w' r r' (p ∷ ps) h =
      let rest = weaken w w' r r' ps h.1 in (
        (λ c. (fewer (changed arrays (walk arrays p) c) (read arrays (walk arrays p) c) (w c) (w' c) (r c) (r' c) (h.0 c)).0, rest.0),
        (λ c. (fewer (changed arrays (walk arrays p) c) (read arrays (walk arrays p) c) (w c) (w' c) (r c) (r' c) (h.0 c)).1, rest.1),
      )

  strengthen : (w w' r r' : ℕ → Bool) (ps : List Steps) → Free w r ps → Free w' r' ps → Free (λ c. w c || w' c) (λ c. r c || r' c) ps
  strengthen w w' r r' [] h k = tt
  strengthen w w' r r' (p ∷ ps) h k =
      (λ c. more (changed arrays (walk arrays p) c) (read arrays (walk arrays p) c) (w c) (w' c) (r c) (r' c) (h.0 c) (k.0 c), strengthen w w' r r' ps h.1 k.1)

  -- A piece that is free of another is separate from it.
  separate_of : (a : Steps) (ps : List Steps) → Free (changed arrays (walk arrays a)) (read arrays (walk arrays a)) ps → IsSeparateFrom arrays a ps
  separate_of a [] h = tt
  separate_of a (p ∷ ps) h = (
    record {
      left = λ c ca other. let e = or_none (changed arrays (walk arrays p) c && (read arrays (walk arrays a) c || changed arrays (walk arrays a) c)) (read arrays (walk arrays p) c && changed arrays (walk arrays a) c) (h.0 c) in
          ⊎_elim
          (λ rp. false≢true (sym (and_none (read arrays (walk arrays p) c) (changed arrays (walk arrays a) c) e.1 (read_from (walk arrays p) c rp)) ∙ changed_from (walk arrays a) c ca))
          (λ cp. false≢true (sym (or_none (read arrays (walk arrays a) c) (changed arrays (walk arrays a) c) (and_none (changed arrays (walk arrays p) c) (read arrays (walk arrays a) c || changed arrays (walk arrays a) c) e.0 (changed_from (walk arrays p) c cp))).1 ∙ changed_from (walk arrays a) c ca))
          other;
      right = λ c cp other. let e = or_none (changed arrays (walk arrays p) c && (read arrays (walk arrays a) c || changed arrays (walk arrays a) c)) (read arrays (walk arrays p) c && changed arrays (walk arrays a) c) (h.0 c) in
          let both = or_none (read arrays (walk arrays a) c) (changed arrays (walk arrays a) c) (and_none (changed arrays (walk arrays p) c) (read arrays (walk arrays a) c || changed arrays (walk arrays a) c) e.0 (changed_from (walk arrays p) c cp)) in
          ⊎_elim
          (λ ra. false≢true (sym both.0 ∙ read_from (walk arrays a) c ra))
          (λ ca. false≢true (sym both.1 ∙ changed_from (walk arrays a) c ca))
          other;
    },
    separate_of a ps h.1,
  )

  of_separate : (a : Steps) (ps : List Steps) → IsSeparateFrom arrays a ps → Free (changed arrays (walk arrays a)) (read arrays (walk arrays a)) ps
  of_separate a [] h = tt
  of_separate a (p ∷ ps) h = (
    λ c. none_or (changed arrays (walk arrays p) c && (read arrays (walk arrays a) c || changed arrays (walk arrays a) c)) (read arrays (walk arrays p) c && changed arrays (walk arrays a) c)
        (none_and (changed arrays (walk arrays p) c) (read arrays (walk arrays a) c || changed arrays (walk arrays a) c)
        (λ cp. is_false (read arrays (walk arrays a) c || changed arrays (walk arrays a) c)
        (λ e. h.0.right c (changed_to (walk arrays p) c cp) (⊎_elim (λ ra. inl (read_to (walk arrays a) c ra)) (λ ca. inr (changed_to (walk arrays a) c ca)) (or_either (read arrays (walk arrays a) c) (changed arrays (walk arrays a) c) e)))))
        (none_and (read arrays (walk arrays p) c) (changed arrays (walk arrays a) c)
        (λ rp. is_false (changed arrays (walk arrays a) c) (λ ca. h.0.left c (changed_to (walk arrays a) c ca) (inl (read_to (walk arrays p) c rp))))),
    of_separate a ps h.1,
  )

  -- If no cell passes the test, all pieces are separate, and free of the earlier marks.
  clear : (w r : ℕ → Bool) (ps : List Steps) → ((c : ℕ) → overlaps arrays (w c) (r c) ps c ≡ false) → Free w r ps × IsApart arrays ps
  clear w r [] h = (tt, tt)
  clear w r (p ∷ ps) h =
      let next = clear (λ c. w c || changed arrays (walk arrays p) c) (λ c. r c || read arrays (walk arrays p) c) ps
      (λ c. (or_none (changed arrays (walk arrays p) c && (r c || w c) || read arrays (walk arrays p) c && w c) (overlaps arrays (w c || changed arrays (walk arrays p) c) (r c || read arrays (walk arrays p) c) ps c) (h c)).1) in
      let parts = weaken w (changed arrays (walk arrays p)) r (read arrays (walk arrays p)) ps next.0 in (
        (λ c. (or_none (changed arrays (walk arrays p) c && (r c || w c) || read arrays (walk arrays p) c && w c) (overlaps arrays (w c || changed arrays (walk arrays p) c) (r c || read arrays (walk arrays p) c) ps c) (h c)).0, parts.0),
        (separate_of p ps parts.1, next.1),
      )

  -- If all pieces are separate and free of the earlier marks, no cell passes the test.
  unclear : (w r : ℕ → Bool) (ps : List Steps) → Free w r ps → IsApart arrays ps → (c : ℕ) → overlaps arrays (w c) (r c) ps c ≡ false
  unclear w r [] free apart c = refl
  unclear w r (p ∷ ps) free apart c =
      none_or (changed arrays (walk arrays p) c && (r c || w c) || read arrays (walk arrays p) c && w c) (overlaps arrays (w c || changed arrays (walk arrays p) c) (r c || read arrays (walk arrays p) c) ps c)
      (free.0 c)
      (unclear (λ k. w k || changed arrays (walk arrays p) k) (λ k. r k || read arrays (walk arrays p) k) ps
      (strengthen w (changed arrays (walk arrays p)) r (read arrays (walk arrays p)) ps free.1 (of_separate p ps apart.0)) apart.1 c)

  free_of_none : (ps : List Steps) → Free (λ c. false) (λ c. false) ps
  free_of_none [] = tt
  free_of_none (p ∷ ps) = (λ c. none (changed arrays (walk arrays p) c) (read arrays (walk arrays p) c), free_of_none ps)
    where
      none : (x y : Bool) → (x && (false || false) || y && false) ≡ false
      none true true = refl
      none true false = refl
      none false true = refl
      none false false = refl

  pub apart_of_clear : (ps : List Steps) → ((c : ℕ) → overlaps arrays false false ps c ≡ false) → IsApart arrays ps
  apart_of_clear ps h = (clear (λ c. false) (λ c. false) ps h).1

  pub clear_of_apart : (ps : List Steps) → IsApart arrays ps → (c : ℕ) → overlaps arrays false false ps c ≡ false
  clear_of_apart ps h c = unclear (λ k. false) (λ k. false) ps (free_of_none ps) h c
