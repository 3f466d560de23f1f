-- The cells that pass the overlap test are those on which two different pieces clash.
use Rattle.std.proofs.Common.{◌≡◌, ℕ, zero, suc, ◌+◌, ◌<◌, ◌≤◌, Bool, true, false, List, [], ◌∷◌, Option, Some, None, refl, sym, ap, ◌∙◌, ◌⊎◌, inl, inr, ⊎_elim, arith, subst}
use Rattle.std.specs.Prelude.{◌≢◌, ◌&&◌, ◌||◌, slice_get, if◌then◌else◌}
use Rattle.std.proofs.lemmas.Bool.{false≢true, and_parts}
use Rattle.array_meaning.specs.Stores.{Arrays}
use Rattle.array_meaning.specs.Steps.{Steps}
use Rattle.array_meaning.specs.Touch.{walk, reads_of, changes_of}
use Rattle.array_meaning.specs.Overlap.{changed, read, overlaps, overlap, first_from, IsClash, IsLeastClash}
use Rattle.array_meaning.proofs.OverlapLemmas.{or_either, or_none, and_none, more, fewer, changed_to, changed_from, read_to, read_from}

either : (b : Bool) → (b ≡ true) ⊎ (b ≡ false)
either true = inl refl
either false = inr refl

-- A piece that changes and reads in this way clashes with one of two earlier ones.
one_of : (x y a a' b b' : Bool) → (x && ((b || b') || (a || a')) || y && (a || a')) ≡ true →
    ((x && (b || a) || y && a) ≡ true) ⊎ ((x && (b' || a') || y && a') ≡ true)
one_of x y a a' b b' e = ⊎_elim
    (λ h. inl h)
    (λ h. ⊎_elim (λ k. inr k) (λ k. absurd (false≢true (sym (more x y a a' b b' h k) ∙ e))) (either (x && (b' || a') || y && a')))
    (either (x && (b || a) || y && a))

no_clash : (x y : Bool) → (x && (false || false) || y && false) ≡ false
no_clash true true = refl
no_clash true false = refl
no_clash false true = refl
no_clash false false = refl

module _ (arrays : Arrays) (cell : ℕ) where
  abbrev changes : Steps → Bool
  changes p = changed arrays (walk arrays p) cell

  abbrev reads : Steps → Bool
  reads p = read arrays (walk arrays p) cell

  -- The piece clashes with earlier ones, of which some changed the cell, or read it.
  abbrev Meets : Bool → Bool → Steps → Type 0
  Meets w r p = (changes p && (r || w) || reads p && w) ≡ true

  -- Some piece clashes with earlier ones.
  record Met (w r : Bool) (ps : List Steps) : Type 0 where
    pub j : ℕ
    pub piece : Steps
    pub here : slice_get ps j ≡ Some piece
    pub meets : Meets w r piece

  between : (p q : Steps) (ps : List Steps) (j : ℕ) → slice_get ps j ≡ Some q → Meets (changes p) (reads p) q → IsClash arrays (p ∷ ps) cell
  between p q ps j e h = ⊎_elim
      (λ k. let both = and_parts (changes q) (reads p || changes p) k in record {
        i = suc j;
        j = 0;
        one = q;
        other = p;
        different = λ d. cc;
        at_i = e;
        at_j = refl;
        changes = changed_to arrays (walk arrays q) cell both.0;
        touches = ⊎_elim (λ r. inl (read_to arrays (walk arrays p) cell r)) (λ c. inr (changed_to arrays (walk arrays p) cell c)) (or_either (reads p) (changes p) both.1);
      })
      (λ k. let both = and_parts (reads q) (changes p) k in record {
        i = 0;
        j = suc j;
        one = p;
        other = q;
        different = λ d. cc;
        at_i = refl;
        at_j = e;
        changes = changed_to arrays (walk arrays p) cell both.1;
        touches = inl (read_to arrays (walk arrays q) cell both.0);
      })
      (or_either (changes q && (reads p || changes p)) (reads q && changes p) h)

  one_more : (p : Steps) (ps : List Steps) → IsClash arrays ps cell → IsClash arrays (p ∷ ps) cell
  one_more p ps c = record {
    i = suc c.i;
    j = suc c.j;
    one = c.one;
    other = c.other;
    different = λ e. c.different (cc);
    at_i = c.at_i;
    at_j = c.at_j;
    changes = c.changes;
    touches = c.touches;
  }

  found : (w r : Bool) (ps : List Steps) → overlaps arrays w r ps cell ≡ true → Met w r ps ⊎ IsClash arrays ps cell
  found w r [] e = absurd (false≢true e)
  found w r (p ∷ ps) e = ⊎_elim
      (λ h. inl (record { j = 0; piece = p; here = refl; meets = h }))
      (λ h. ⊎_elim
      (λ m. ⊎_elim
      (λ k. inl (record { j = suc m.j; piece = m.piece; here = m.here; meets = k }))
      (λ k. inr (between p m.piece ps m.j m.here k))
      (one_of (changes m.piece) (reads m.piece) w (changes p) r (reads p) m.meets))
      (λ c. inr (one_more p ps c))
      (found (w || changes p) (r || reads p) ps h))
      (or_either (changes p && (r || w) || reads p && w) (overlaps arrays (w || changes p) (r || reads p) ps cell) e)

  -- If a cell doesn't pass, no piece clashes with earlier ones.
  unmet : (w r : Bool) (ps : List Steps) (j : ℕ) (q : Steps) → overlaps arrays w r ps cell ≡ false → slice_get ps j ≡ Some q → (changes q && (r || w) || reads q && w) ≡ false
  unmet w r [] j q e h = cc
  unmet w r (p ∷ ps) zero q e h =
      let same : p ≡ q = cc in
      subst (λ s. (changes s && (r || w) || reads s && w) ≡ false) same
      (or_none (changes p && (r || w) || reads p && w) (overlaps arrays (w || changes p) (r || reads p) ps cell) e).0
  unmet w r (p ∷ ps) (suc j) q e h =
      (fewer (changes q) (reads q) w (changes p) r (reads p)
      (unmet (w || changes p) (r || reads p) ps j q (or_none (changes p && (r || w) || reads p && w) (overlaps arrays (w || changes p) (r || reads p) ps cell) e).1 h)).0

  -- If a cell doesn't pass, no two pieces clash.
  unmet_pair : (w r : Bool) (ps : List Steps) (i j : ℕ) (p q : Steps) → overlaps arrays w r ps cell ≡ false → i < j →
      slice_get ps i ≡ Some p → slice_get ps j ≡ Some q → (changes q && (reads p || changes p) || reads q && changes p) ≡ false
  unmet_pair w r [] i j p q e l h k = cc
  unmet_pair w r (s ∷ ps) i zero p q e l h k = absurd (omega arith)
  unmet_pair w r (s ∷ ps) zero (suc j) p q e l h k =
      let same : s ≡ p = cc in
      subst (λ t. (changes q && (reads t || changes t) || reads q && changes t) ≡ false) same
      (fewer (changes q) (reads q) w (changes s) r (reads s)
      (unmet (w || changes s) (r || reads s) ps j q (or_none (changes s && (r || w) || reads s && w) (overlaps arrays (w || changes s) (r || reads s) ps cell) e).1 k)).1
  unmet_pair w r (s ∷ ps) (suc i) (suc j) p q e l h k =
      unmet_pair (w || changes s) (r || reads s) ps i j p q
      (or_none (changes s && (r || w) || reads s && w) (overlaps arrays (w || changes s) (r || reads s) ps cell) e).1 (omega arith) h k

  apart_pair : (p q : Steps) → (changes q && (reads p || changes p) || reads q && changes p) ≡ false →
      ((changes_of arrays p cell → reads_of arrays q cell ⊎ changes_of arrays q cell → ⊥) × (changes_of arrays q cell → reads_of arrays p cell ⊎ changes_of arrays p cell → ⊥))
  apart_pair p q e =
      let parts = or_none (changes q && (reads p || changes p)) (reads q && changes p) e in (
        λ c t. let cp = changed_from arrays (walk arrays p) cell c in ⊎_elim
            (λ r. false≢true (sym (and_none (reads q) (changes p) parts.1 (read_from arrays (walk arrays q) cell r)) ∙ cp))
            (λ d. false≢true (sym (or_none (reads p) (changes p) (and_none (changes q) (reads p || changes p) parts.0 (changed_from arrays (walk arrays q) cell d))).1 ∙ cp))
            t,
        λ c t. let none = or_none (reads p) (changes p) (and_none (changes q) (reads p || changes p) parts.0 (changed_from arrays (walk arrays q) cell c)) in ⊎_elim
            (λ r. false≢true (sym none.0 ∙ read_from arrays (walk arrays p) cell r))
            (λ d. false≢true (sym none.1 ∙ changed_from arrays (walk arrays p) cell d))
            t,
      )

  order : (i j : ℕ) → i ≢ j → (i < j) ⊎ (j < i)
  order zero zero d = absurd (d refl)
  order zero (suc j) d = inl (omega arith)
  order (suc i) zero d = inr (omega arith)
  order (suc i) (suc j) d = ⊎_elim (λ l. inl (omega arith)) (λ l. inr (omega arith)) (order i j (λ e. d (ap suc e)))

  no_clash_of : (ps : List Steps) → overlaps arrays false false ps cell ≡ false → IsClash arrays ps cell → ⊥
  no_clash_of ps e c = ⊎_elim
      (λ l. (apart_pair c.one c.other (unmet_pair false false ps c.i c.j c.one c.other e l c.at_i c.at_j)).0 c.changes c.touches)
      (λ l. (apart_pair c.other c.one (unmet_pair false false ps c.j c.i c.other c.one e l c.at_j c.at_i)).1 c.changes c.touches)
      (order c.i c.j c.different)

  pub clash_of : (ps : List Steps) → overlaps arrays false false ps cell ≡ true → IsClash arrays ps cell
  clash_of ps e = ⊎_elim
      (λ m. absurd (false≢true (sym (no_clash (changes m.piece) (reads m.piece)) ∙ m.meets)))
      (λ c. c)
      (found false false ps e)

  pub passes_of : (ps : List Steps) → IsClash arrays ps cell → overlaps arrays false false ps cell ≡ true
  passes_of ps c = ⊎_elim (λ h. h) (λ h. absurd (no_clash_of ps h c)) (either (overlaps arrays false false ps cell))

-- The first number that passes, or none if none does.
abbrev IsFirst : (ℕ → Bool) → ℕ → ℕ → Option ℕ → Type 0
IsFirst test i k None = (c : ℕ) → i ≤ c → c < i + k → test c ≡ false
IsFirst test i k (Some reported) = (reported < i + k) × (test reported ≡ true) × ((c : ℕ) → i ≤ c → c < reported → test c ≡ false)

here_or_above : (test : ℕ → Bool) (i c : ℕ) → test i ≡ false → i ≤ c → (i + 1 ≤ c → test c ≡ false) → test c ≡ false
here_or_above test i c e l h = ⊎_elim (λ s. h (omega arith)) (λ s. subst (λ n. test n ≡ false) s e) (which i c l)
  where
    which : (i c : ℕ) → i ≤ c → (i < c) ⊎ (i ≡ c)
    which zero zero l = inr refl
    which zero (suc c) l = inl (omega arith)
    which (suc i) zero l = absurd (omega arith)
    which (suc i) (suc c) l = ⊎_elim (λ h. inl (omega arith)) (λ h. inr (ap suc h)) (which i c (omega arith))

step : (test : ℕ → Bool) (i k : ℕ) (o : Option ℕ) → test i ≡ false → IsFirst test (i + 1) k o → IsFirst test i (suc k) o
step test i k None e h = λ c l below. here_or_above test i c e l (λ above. h c above (omega arith))
step test i k (Some reported) e h = (omega (arith, h.0), h.1, λ c l below. here_or_above test i c e l (λ above. h.2 c above below))

first_or : (test : ℕ → Bool) (i k : ℕ) (b : Bool) → test i ≡ b → IsFirst test (i + 1) k (first_from test (i + 1) k) → IsFirst test i (suc k) (if b then Some i else first_from test (i + 1) k)
first_or test i k true e h = (omega arith, e, λ c l below. absurd (omega arith))
first_or test i k false e h = step test i k (first_from test (i + 1) k) e h

first : (test : ℕ → Bool) (i k : ℕ) → IsFirst test i k (first_from test i k)
first test i zero = λ c l below. absurd (omega arith)
first test i (suc k) = first_or test i k (test i) refl (first test (i + 1) k)

least : (arrays : Arrays) (cells : ℕ) (pieces : List Steps) (reported : Option ℕ) → IsFirst (overlaps arrays false false pieces) 0 cells reported → IsLeastClash arrays cells pieces reported
least arrays cells pieces None h = λ cell l c. false≢true (sym (h cell (omega arith) (omega arith)) ∙ passes_of arrays cell pieces c)
least arrays cells pieces (Some reported) h = (
  omega (arith, h.0),
  clash_of arrays reported pieces h.1,
  λ cell l c. false≢true (sym (h.2 cell (omega arith) l) ∙ passes_of arrays cell pieces c),
)

pub least_clash : (arrays : Arrays) (cells : ℕ) (pieces : List Steps) → IsLeastClash arrays cells pieces (overlap arrays cells pieces)
least_clash arrays cells pieces = least arrays cells pieces (overlap arrays cells pieces) (first (overlaps arrays false false pieces) 0 cells)
