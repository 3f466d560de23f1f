-- The last value of each cell among writes.
use Rattle.std.proofs.Common.{◌≡◌, ℕ, ◌<◌, ◌≤◌, Bool, true, false, cond, List, [], ◌∷◌, ◌++◌, Option, Some, None, ℤ, refl, sym, ap, ◌∙◌, ⊎_elim, arith}
use Rattle.std.specs.Prelude.{nat_eq, nat_lt}
use Rattle.std.proofs.lemmas.Bool.Decides.{nat_tests}
use Rattle.std.proofs.lemmas.Bool.{cases_lt}
use Rattle.array_meaning.specs.Stores.{Write}
use Rattle.std.specs.Option.{option_or}
use Rattle.array_meaning.specs.Pieces.{lay, lays, last_writes, value_at, last_value, IsAbove, IsRising}

pub or_assoc : {T : Type 0} (x y z : Option T) → option_or (option_or x y) z ≡ option_or x (option_or y z)
or_assoc None y z = refl
or_assoc (Some x) y z = refl

pub or_none : {T : Type 0} (x : Option T) → option_or x None ≡ x
or_none None = refl
or_none (Some x) = refl

pub last_value_append : (a b : List Write) (k : ℕ) → last_value (a ++ b) k ≡ option_or (last_value b k) (last_value a k)
last_value_append [] b k = sym (or_none (last_value b k))
last_value_append (w ∷ a) b k = rw (last_value_append a b k) (or_assoc (last_value b k) (last_value a k) _)

pub value_at_lay : (c : ℕ) (v : ℤ) (o : List Write) (k : ℕ) → value_at (lay c v o) k ≡ option_or (cond (nat_eq c k) (Some v) None) (value_at o k)
value_at_lay c v [] k = grind (arith, nat_tests)
value_at_lay c v (w ∷ o) k = let ih = value_at_lay c v o k in grind (arith, nat_tests)

pub value_at_lays : (ws o : List Write) (k : ℕ) → value_at (lays ws o) k ≡ option_or (last_value ws k) (value_at o k)
value_at_lays [] o k = refl
value_at_lays (w ∷ ws) o k = value_at_lays ws (lay w.0 w.1 o) k ∙ rw (value_at_lay w.0 w.1 o k) (sym (or_assoc (last_value ws k) _ (value_at o k)))

-- ---- rising lists

pub above_trans : (a b : ℕ) (ws : List Write) → a < b → IsAbove b ws → IsAbove a ws
above_trans a b [] h q = tt
above_trans a b (w ∷ ws) h q = (omega (arith, q.0), above_trans a b ws h q.1)

value_at_above : (c : ℕ) (ws : List Write) (k : ℕ) → k ≤ c → IsAbove c ws → value_at ws k ≡ None
value_at_above c [] k h q = refl
value_at_above c (w ∷ ws) k h q = let ih = value_at_above c ws k h q.1 in let p = q.0 in grind (arith, nat_tests)

pub above_lay : (d c : ℕ) (v : ℤ) (o : List Write) → d < c → IsAbove d o → IsAbove d (lay c v o)
above_lay d c v [] h q = (h, tt)
above_lay d c v (w ∷ o) h q = cases (above_lay d c v o h q.1) (nat_lt c w.0) (nat_eq c w.0)
  where
    cases : IsAbove d (lay c v o) → (x y : Bool) → IsAbove d (cond x ((c, v) ∷ w ∷ o) (cond y ((c, v) ∷ o) (w ∷ lay c v o)))
    cases ih true y = (h, q)
    cases ih false true = (h, q.1)
    cases ih false false = (q.0, ih)

pub rising_lay : (c : ℕ) (v : ℤ) (o : List Write) → IsRising o → IsRising (lay c v o)
rising_lay c v [] q = (tt, tt)
rising_lay c v (w ∷ o) q = cases (rising_lay c v o q.1) (nat_lt c w.0) (nat_eq c w.0) refl refl
  where
    cases : IsRising (lay c v o) → (x y : Bool) → nat_lt c w.0 ≡ x → nat_eq c w.0 ≡ y → IsRising (cond x ((c, v) ∷ w ∷ o) (cond y ((c, v) ∷ o) (w ∷ lay c v o)))
    cases ih true y e f = let lt : c < w.0 = grind (arith, nat_tests) in ((lt, above_trans c w.0 o lt q.0), q)
    cases ih false true e f = let same : c ≡ w.0 = grind (arith, nat_tests) in (rw same q.0, q.1)
    cases ih false false e f = let gt : w.0 < c = grind (arith, nat_tests) in (above_lay w.0 c v o gt q.0, ih)

pub rising_lays : (ws o : List Write) → IsRising o → IsRising (lays ws o)
rising_lays [] o q = q
rising_lays (w ∷ ws) o q = rising_lays ws (lay w.0 w.1 o) (rising_lay w.0 w.1 o q)

-- Two rising lists with equal values at each cell are equal.
pub same_rising : (a b : List Write) → IsRising a → IsRising b → ((k : ℕ) → value_at a k ≡ value_at b k) → a ≡ b
same_rising [] [] p q h = refl
same_rising [] (y ∷ b) p q h = let e = h y.0 in absurd (grind (arith, nat_tests))
same_rising (x ∷ a) [] p q h = let e = h x.0 in absurd (grind (arith, nat_tests))
same_rising (x ∷ a) (y ∷ b) p q h =
    let ex = h x.0 in
    let ey = h y.0 in
    let ax = value_at_above x.0 a y.0 in
    let by = value_at_above y.0 b x.0 in
    let cell : x.0 ≡ y.0 = grind (arith, nat_tests) in
    let number : x.1 ≡ y.1 = grind (arith, nat_tests) in
    let rest = same_rising a b p.1 q.1 (λ k. ⊎_elim
    (λ lt. let ek = h k in grind (arith, nat_tests))
    (λ le.
    let none_a : value_at a k ≡ None = value_at_above x.0 a k le p.0 in
    let none_b : value_at b k ≡ None = value_at_above y.0 b k (omega arith) q.0 in
    none_a ∙ sym none_b)
    (cases_lt x.0 k)) in
    let moved : x ≡ (y.0, x.1) = ap (λ c. (c, x.1)) cell in
    let valued : (y.0, x.1) ≡ y = ap (λ v. (y.0, v)) number in
    let pair : x ≡ y = moved ∙ valued in
    cc

-- The last values depend only on the value at each cell.
pub same_last : (a b : List Write) → ((k : ℕ) → last_value a k ≡ last_value b k) → last_writes a ≡ last_writes b
same_last a b h = same_rising (last_writes a) (last_writes b) (rising_lays a [] tt) (rising_lays b [] tt)
    (λ k. value_at_lays a [] k ∙ rw (h k) (sym (value_at_lays b [] k)))

-- A rising list keeps its values.
rising_last_value : (o : List Write) (k : ℕ) → IsRising o → last_value o k ≡ value_at o k
rising_last_value [] k q = refl
rising_last_value (w ∷ o) k q =
    rw (rising_last_value o k q.1) (cases (nat_eq w.0 k) refl)
  where
    cases : (x : Bool) → nat_eq w.0 k ≡ x → option_or (value_at o k) (cond x (Some w.1) None) ≡ cond x (Some w.1) (value_at o k)
    cases true e = let same : k ≤ w.0 = grind (arith, nat_tests) in rw (value_at_above w.0 o k same q.0) refl
    cases false e = or_none (value_at o k)

-- A piece has the values that its writes leave.
pub last_value_last : (ws : List Write) (k : ℕ) → last_value (last_writes ws) k ≡ last_value ws k
last_value_last ws k = rising_last_value (last_writes ws) k (rising_lays ws [] tt) ∙ value_at_lays ws [] k ∙ or_none (last_value ws k)

pub lays_append : (a b o : List Write) → lays (a ++ b) o ≡ lays b (lays a o)
lays_append [] b o = refl
lays_append (w ∷ a) b o = lays_append a b (lay w.0 w.1 o)
