-- Pieces whose recorded stretches don't clash are apart.
use Rattle.std.proofs.Common.{◌≡◌, ℕ, ◌+◌, ◌-◌, ◌<◌, ◌≤◌, Bool, true, false, cond, List, [], ◌∷◌, length, Option, Some, None, ℤ, pos, negsuc, refl, subst, ap, ◌⊎◌, inl, inr, arith}
use Rattle.std.specs.Prelude.{IsTrue}
use Rattle.std.proofs.lemmas.Bool.{false≢true}
use Rattle.std.proofs.lemmas.Int.{ints}
use Rattle.array_tree.specs.Equal.{name_eq}
use Rattle.array_meaning.specs.Stores.{Arrays, base_of, length_of}
use Rattle.array_meaning.specs.Steps.{Steps}
use Rattle.array_meaning.specs.Touch.{Visit, walk, Covers, Touches, IsSeparate, IsSeparateFrom}
use Rattle.array_meaning.specs.Accepted.{is_inside}
use Rattle.array_eval.specs.Layouts.{number_of}
use Rattle.touch_bounds.specs.declared.touch.Touch.{Touch}
use Rattle.touch_bounds.specs.Touches.{Includes, side, DoClash, no_cells, untouched, touch_at, AreVisitsNoted}
use Rattle.touch_bounds.specs.Pieces.{ArePiecesNoted, IsClearOf, ClearPiecesAreApart}

-- ---- arrays share no cell

number_same : (arrays : Arrays) (m n : List ℕ) (c : ℕ) → base_of arrays m ≤ c → c < base_of arrays m + length_of arrays m →
    base_of arrays n ≤ c → c < base_of arrays n + length_of arrays n → number_of arrays m ≡ number_of arrays n
number_same [] m n c a b d e = refl
number_same (x ∷ more) m n c a b d e =
    cases (name_eq x.0 m) (name_eq x.0 n) (λ p q r s. number_same more m n (c - x.1) p q r s) a b d e
  where
    cases : (i j : Bool) →
        (base_of more m ≤ c - x.1 → c - x.1 < base_of more m + length_of more m → base_of more n ≤ c - x.1 → c - x.1 < base_of more n + length_of more n → number_of more m ≡ number_of more n) →
        cond i 0 (x.1 + base_of more m) ≤ c → c < cond i 0 (x.1 + base_of more m) + cond i x.1 (length_of more m) →
        cond j 0 (x.1 + base_of more n) ≤ c → c < cond j 0 (x.1 + base_of more n) + cond j x.1 (length_of more n) →
        cond i 0 (1 + number_of more m) ≡ cond j 0 (1 + number_of more n)
    cases true true rest a b d e = refl
    cases true false rest a b d e = absurd (omega arith)
    cases false true rest a b d e = absurd (omega arith)
    cases false false rest a b d e = ap (λ k. 1 + k) (rest (omega arith) (omega arith) (omega arith) (omega arith))

-- ---- a touched cell lies in a recorded stretch

record Spot (arrays : Arrays) (t : List Touch) (writes : Bool) (cell : ℕ) : Type 0 where
  array : List ℕ
  low : base_of arrays array ≤ cell
  high : cell < base_of arrays array + length_of arrays array
  known : number_of arrays array < length arrays
  noted : Includes (side (touch_at t (number_of arrays array)) writes) cell

within : (arrays : Arrays) (array : List ℕ) (index : Option ℤ) (cell : ℕ) → IsTrue (is_inside (length_of arrays array) index) → Covers arrays array index cell →
    (base_of arrays array ≤ cell) × (cell < base_of arrays array + length_of arrays array)
within arrays array None cell inside h = h
within arrays array (Some (pos n)) cell inside h = let small : n < length_of arrays array = grind (arith, ints) in (omega arith, omega arith)
within arrays array (Some (negsuc n)) cell inside h = absurd (false≢true inside)

spot_of : (arrays : Arrays) (t : List Touch) (writes : Bool) (vs : List Visit) (cell : ℕ) → AreVisitsNoted arrays t vs → Touches arrays writes vs cell → Spot arrays t writes cell
spot_of arrays t writes [] cell noted h = absurd h
spot_of arrays t writes (v ∷ vs) cell noted (inl h) =
    let place = within arrays v.array v.index cell noted.0.reach.inside h.1 in
    record {
      array = v.array;
      low = place.0;
      high = place.1;
      known = noted.0.known;
      noted = subst (λ w. Includes (side (touch_at t (number_of arrays v.array)) w) cell) h.0 (noted.0.reach.covered cell h.1);
    }
spot_of arrays t writes (v ∷ vs) cell noted (inr h) = spot_of arrays t writes vs cell noted.1 h

-- ---- two pieces

abbrev AreApartOn : Arrays → List Touch → List Touch → Type 0
AreApartOn arrays t u = (number : ℕ) → number < length arrays → ¬ DoClash (touch_at t number) (touch_at u number)

clash_at : (arrays : Arrays) (t u : List Touch) (w x : Bool) (cell : ℕ) → Spot arrays t w cell → Spot arrays u x cell →
    ((number : ℕ) → number < length arrays → Includes (side (touch_at t number) w) cell → Includes (side (touch_at u number) x) cell → ⊥) → ⊥
clash_at arrays t u w x cell p q none =
    none (number_of arrays p.array) p.known p.noted
    (subst (λ n. Includes (side (touch_at u n) x) cell) (number_same arrays q.array p.array cell q.low q.high p.low p.high) q.noted)

separate : (arrays : Arrays) (t u : List Touch) (a b : Steps) → AreVisitsNoted arrays t (walk arrays a) → AreVisitsNoted arrays u (walk arrays b) → AreApartOn arrays t u → IsSeparate arrays a b
separate arrays t u a b ta ub apart = record { left = left; right = right }
  where
    left : (cell : ℕ) → Touches arrays true (walk arrays a) cell → Touches arrays false (walk arrays b) cell ⊎ Touches arrays true (walk arrays b) cell → ⊥
    left cell h (inl k) = clash_at arrays t u true false cell (spot_of arrays t true (walk arrays a) cell ta h) (spot_of arrays u false (walk arrays b) cell ub k)
        (λ n small p q. apart n small (record { cell = cell; clash = inl (p, q) }))
    left cell h (inr k) = clash_at arrays t u true true cell (spot_of arrays t true (walk arrays a) cell ta h) (spot_of arrays u true (walk arrays b) cell ub k)
        (λ n small p q. apart n small (record { cell = cell; clash = inr (inl (p, q)) }))

    right : (cell : ℕ) → Touches arrays true (walk arrays b) cell → Touches arrays false (walk arrays a) cell ⊎ Touches arrays true (walk arrays a) cell → ⊥
    right cell h (inl k) = clash_at arrays t u false true cell (spot_of arrays t false (walk arrays a) cell ta k) (spot_of arrays u true (walk arrays b) cell ub h)
        (λ n small p q. apart n small (record { cell = cell; clash = inr (inr (p, q)) }))
    right cell h (inr k) = clash_at arrays t u true true cell (spot_of arrays t true (walk arrays a) cell ta k) (spot_of arrays u true (walk arrays b) cell ub h)
        (λ n small p q. apart n small (record { cell = cell; clash = inr (inl (p, q)) }))

-- ---- all pieces

no_clash : (other : Touch) → ¬ DoClash untouched other
no_clash other clash = cases clash.cell clash.clash
  where
    cases : (cell : ℕ) → Includes no_cells cell × Includes other.read cell ⊎ (Includes no_cells cell × Includes other.written cell ⊎ Includes no_cells cell × Includes other.written cell) → ⊥
    cases cell (inl h) = let low = h.0.0 in let high = h.0.1 in omega arith
    cases cell (inr (inl h)) = let low = h.0.0 in let high = h.0.1 in omega arith
    cases cell (inr (inr h)) = let low = h.0.0 in let high = h.0.1 in omega arith

pub untouched_clear : (number : ℕ) (touch : Touch) (us : List (List Touch)) → touch ≡ untouched → IsClearOf number touch us
untouched_clear number touch [] e = tt
untouched_clear number touch (u ∷ us) e =
    (λ clash. no_clash (touch_at u number) (subst (λ t. DoClash t (touch_at u number)) e clash), untouched_clear number touch us e)

separate_from : (arrays : Arrays) (t : List Touch) (a : Steps) (us : List (List Touch)) (more : List Steps) → AreVisitsNoted arrays t (walk arrays a) → ArePiecesNoted arrays us more →
    ((number : ℕ) → number < length arrays → IsClearOf number (touch_at t number) us) → IsSeparateFrom arrays a more
separate_from arrays t a [] [] ta noted clear = tt
separate_from arrays t a [] (b ∷ more) ta noted clear = absurd noted
separate_from arrays t a (u ∷ us) [] ta noted clear = absurd noted
separate_from arrays t a (u ∷ us) (b ∷ more) ta noted clear =
    (separate arrays t u a b ta noted.0 (λ n small. (clear n small).0), separate_from arrays t a us more ta noted.1 (λ n small. (clear n small).1))

pub clear_apart : ClearPiecesAreApart
clear_apart arrays [] [] noted clear = tt
clear_apart arrays [] (a ∷ more) noted clear = absurd noted
clear_apart arrays (t ∷ ts) [] noted clear = absurd noted
clear_apart arrays (t ∷ ts) (a ∷ more) noted clear =
    (separate_from arrays t a ts more noted.0 noted.1 (λ n small. (clear n small).0), clear_apart arrays ts more noted.1 (λ n small. (clear n small).1))
