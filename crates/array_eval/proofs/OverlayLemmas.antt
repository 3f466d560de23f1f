-- The index of a pair in a list of rising cells.
use Rattle.std.proofs.Common.{◌≡◌, ℕ, zero, suc, ◌+◌, ◌-◌, ◌<◌, ◌≤◌, Bool, true, false, cond, List, [], ◌∷◌, ◌++◌, length, get_or, set, take, drop, Some, None, ℤ, pos, refl, ap, subst, arith}
use Rattle.std.specs.Prelude.{All, nat_lt, nat_eq}
use Rattle.array_meaning.proofs.LastLemmas.{rising_lay}
use Rattle.std.proofs.lemmas.List.Elements.{All-append}
use Rattle.std.proofs.lemmas.Bool.Decides.{nat_tests}
use Rattle.array_meaning.specs.Stores.{Write}
use Rattle.array_meaning.specs.Pieces.{lay, value_at, IsAbove, IsRising}
use Rattle.array_eval.specs.Overlays.{place_in, StandsAt, WouldStandAt}

above_get : (c m : ℕ) (ws : List Write) (d : Write) → IsAbove c ws → m < length ws → c < (get_or ws m d).0
above_get c m [] d above h = absurd (omega (arith, h))
above_get c zero (w ∷ ws) d above h = above.0
above_get c (suc m) (w ∷ ws) d above h = above_get c m ws d above.1 (omega (arith, h))

-- A pair with a smaller cell is below the index.
pub place_after : (c m : ℕ) (ws : List Write) (d : Write) → IsRising ws → m < length ws → (get_or ws m d).0 < c → m < place_in c ws
place_after c m [] d rising h less = absurd (omega (arith, h))
place_after c zero (w ∷ ws) d rising h less =
    let test : nat_lt w.0 c ≡ true = grind (arith, nat_tests) in rw test (let lt : 0 < suc (place_in c ws) = omega arith in lt)
place_after c (suc m) (w ∷ ws) d rising h less =
    let up = above_get w.0 m ws d rising.0 (omega (arith, h)) in
    let below : w.0 < c = omega (arith, up, less) in
    let test : nat_lt w.0 c ≡ true = grind (arith, nat_tests) in
    let ih = place_after c m ws d rising.1 (omega (arith, h)) less in
    rw test (let lt : suc m < suc (place_in c ws) = omega (arith, ih) in lt)

-- A pair without a smaller cell isn't below the index.
pub place_before : (c m : ℕ) (ws : List Write) (d : Write) → m < length ws → c ≤ (get_or ws m d).0 → place_in c ws ≤ m
place_before c m [] d h more = absurd (omega (arith, h))
place_before c zero (w ∷ ws) d h more = let test : nat_lt w.0 c ≡ false = grind (arith, nat_tests) in rw test (let le : 0 ≤ 0 = omega arith in le)
place_before c (suc m) (w ∷ ws) d h more = cases (nat_lt w.0 c) (place_before c m ws d (omega (arith, h)) more)
  where
    cases : (b : Bool) → place_in c ws ≤ m → cond b (suc (place_in c ws)) 0 ≤ suc m
    cases true le = omega (arith, le)
    cases false le = omega arith

pub place_within : (c : ℕ) (ws : List Write) → place_in c ws ≤ length ws
place_within c [] = omega arith
place_within c (w ∷ ws) = cases (nat_lt w.0 c) (place_within c ws)
  where
    cases : (b : Bool) → place_in c ws ≤ length ws → cond b (suc (place_in c ws)) 0 ≤ length (w ∷ ws)
    cases true le = omega (arith, le)
    cases false le = omega arith

-- The cell has a pair: its value is replaced.
pub lay_there : (c : ℕ) (v : ℤ) (ws : List Write) (d : Write) → place_in c ws < length ws → (get_or ws (place_in c ws) d).0 ≡ c →
    set ws (place_in c ws) (c, v) ≡ lay c v ws
lay_there c v [] d h e = absurd (omega (arith, h))
lay_there c v (w ∷ ws) d h e = cases (nat_lt w.0 c) refl h e (lay_there c v ws d)
  where
    cases : (b : Bool) → nat_lt w.0 c ≡ b → cond b (suc (place_in c ws)) 0 < length (w ∷ ws) → (get_or (w ∷ ws) (cond b (suc (place_in c ws)) 0) d).0 ≡ c →
        (place_in c ws < length ws → (get_or ws (place_in c ws) d).0 ≡ c → set ws (place_in c ws) (c, v) ≡ lay c v ws) →
        set (w ∷ ws) (cond b (suc (place_in c ws)) 0) (c, v) ≡ lay c v (w ∷ ws)
    cases false f h e ih = let a : nat_lt c w.0 ≡ false = grind (arith, nat_tests) in let b : nat_eq c w.0 ≡ true = grind (arith, nat_tests) in rw (a, b) refl
    cases true f h e ih = let a : nat_lt c w.0 ≡ false = grind (arith, nat_tests) in let b : nat_eq c w.0 ≡ false = grind (arith, nat_tests) in rw (a, b) (ap (λ x. w ∷ x) (ih (omega (arith, h)) e))

-- The cell has no pair: a pair is inserted.
pub lay_new : (c : ℕ) (v : ℤ) (ws : List Write) (d : Write) → (place_in c ws < length ws → (get_or ws (place_in c ws) d).0 ≡ c → ⊥) →
    take (place_in c ws) ws ++ (c, v) ∷ drop (place_in c ws) ws ≡ lay c v ws
lay_new c v [] d h = refl
lay_new c v (w ∷ ws) d h = cases (nat_lt w.0 c) refl h (lay_new c v ws d)
  where
    cases : (b : Bool) → nat_lt w.0 c ≡ b → (cond b (suc (place_in c ws)) 0 < length (w ∷ ws) → (get_or (w ∷ ws) (cond b (suc (place_in c ws)) 0) d).0 ≡ c → ⊥) →
        ((place_in c ws < length ws → (get_or ws (place_in c ws) d).0 ≡ c → ⊥) → take (place_in c ws) ws ++ (c, v) ∷ drop (place_in c ws) ws ≡ lay c v ws) →
        take (cond b (suc (place_in c ws)) 0) (w ∷ ws) ++ (c, v) ∷ drop (cond b (suc (place_in c ws)) 0) (w ∷ ws) ≡ lay c v (w ∷ ws)
    cases false f h ih = let ne : w.0 ≡ c → ⊥ = h (omega arith) in let a : nat_lt c w.0 ≡ true = grind (arith, nat_tests) in rw a refl
    cases true f h ih = let a : nat_lt c w.0 ≡ false = grind (arith, nat_tests) in let b : nat_eq c w.0 ≡ false = grind (arith, nat_tests) in
        rw (a, b) (ap (λ x. w ∷ x) (ih (λ lt e. h (omega (arith, lt)) e)))

-- The value at the index is the cell's.
pub value_there : (c : ℕ) (ws : List Write) (d : Write) → place_in c ws < length ws → (get_or ws (place_in c ws) d).0 ≡ c →
    value_at ws c ≡ Some (get_or ws (place_in c ws) d).1
value_there c [] d h e = absurd (omega (arith, h))
value_there c (w ∷ ws) d h e = cases (nat_lt w.0 c) refl h e (value_there c ws d)
  where
    cases : (b : Bool) → nat_lt w.0 c ≡ b → cond b (suc (place_in c ws)) 0 < length (w ∷ ws) → (get_or (w ∷ ws) (cond b (suc (place_in c ws)) 0) d).0 ≡ c →
        (place_in c ws < length ws → (get_or ws (place_in c ws) d).0 ≡ c → value_at ws c ≡ Some (get_or ws (place_in c ws) d).1) →
        value_at (w ∷ ws) c ≡ Some (get_or (w ∷ ws) (cond b (suc (place_in c ws)) 0) d).1
    cases false f h e ih = let a : nat_eq w.0 c ≡ true = grind (arith, nat_tests) in rw a refl
    cases true f h e ih = let a : nat_eq w.0 c ≡ false = grind (arith, nat_tests) in rw a (ih (omega (arith, h)) e)

value_above : (c b : ℕ) (ws : List Write) → c ≤ b → IsAbove b ws → value_at ws c ≡ None
value_above c b [] le above = refl
value_above c b (w ∷ ws) le above =
    let up = above.0 in let a : nat_eq w.0 c ≡ false = grind (arith, nat_tests) in rw a (value_above c b ws le above.1)

-- If the pair at the index isn't the cell's, the cell has none.
pub value_not_there : (c : ℕ) (ws : List Write) (d : Write) → IsRising ws → (place_in c ws < length ws → (get_or ws (place_in c ws) d).0 ≡ c → ⊥) →
    value_at ws c ≡ None
value_not_there c [] d rising h = refl
value_not_there c (w ∷ ws) d rising h = cases (nat_lt w.0 c) refl h (value_not_there c ws d rising.1)
  where
    cases : (b : Bool) → nat_lt w.0 c ≡ b → (cond b (suc (place_in c ws)) 0 < length (w ∷ ws) → (get_or (w ∷ ws) (cond b (suc (place_in c ws)) 0) d).0 ≡ c → ⊥) →
        ((place_in c ws < length ws → (get_or ws (place_in c ws) d).0 ≡ c → ⊥) → value_at ws c ≡ None) → value_at (w ∷ ws) c ≡ None
    cases false f h ih =
        let ne : w.0 ≡ c → ⊥ = h (omega arith) in
        let a : nat_eq w.0 c ≡ false = grind (arith, nat_tests) in
        rw a (value_above c w.0 ws (let le : c ≤ w.0 = grind (arith, nat_tests) in le) rising.0)
    cases true f h ih = let a : nat_eq w.0 c ≡ false = grind (arith, nat_tests) in rw a (ih (λ lt e. h (omega (arith, lt)) e))

pub stands : (c : ℕ) (ws : List Write) (i : ℕ) → i ≡ place_in c ws → (i < length ws) × ((get_or ws i (0, pos 0)).0 ≡ c) → StandsAt c ws i
stands c ws i e there =
    let at : (place_in c ws < length ws) × ((get_or ws (place_in c ws) (0, pos 0)).0 ≡ c) = rw e at there in
    rw e (record {
      inside = at.0;
      value = value_there c ws (0, pos 0) at.0 at.1;
      laid = λ v. lay_there c v ws (0, pos 0) at.0 at.1;
    })

pub would_stand : (c : ℕ) (ws : List Write) (i : ℕ) → IsRising ws → i ≡ place_in c ws →
    ((i < length ws) × ((get_or ws i (0, pos 0)).0 ≡ c) → ⊥) → WouldStandAt c ws i
would_stand c ws i rising e not =
    let missing : place_in c ws < length ws → (get_or ws (place_in c ws) (0, pos 0)).0 ≡ c → ⊥ = λ lt same. (rw e at not) (lt, same) in
    rw e (record {
      within = place_within c ws;
      none = value_not_there c ws (0, pos 0) rising missing;
      laid = λ v. lay_new c v ws (0, pos 0) missing;
    })

-- ---- how long a rising list is

short_above : (c n : ℕ) (ws : List Write) → IsRising ws → IsAbove c ws → All (λ w. w.0 < n) ws → length ws ≤ n - suc c
short_above c n [] rising above below = omega arith
short_above c n (w ∷ ws) rising above below =
    let up = above.0 in
    let under = below zero w (omega arith) in
    let rest = short_above w.0 n ws rising.1 rising.0 (λ k d h. below (suc k) d (omega (arith, h))) in
    omega (arith, up, under, rest)

pub rising_short : (n : ℕ) (ws : List Write) → IsRising ws → All (λ w. w.0 < n) ws → length ws ≤ n
rising_short n [] rising below = omega arith
rising_short n (w ∷ ws) rising below =
    let under = below zero w (omega arith) in
    let rest = short_above w.0 n ws rising.1 rising.0 (λ k d h. below (suc k) d (omega (arith, h))) in
    omega (arith, under, rest)

-- ---- a pair behind all others

pub lay_last : (c : ℕ) (v : ℤ) (ws : List Write) → All (λ w. w.0 < c) ws → lay c v ws ≡ ws ++ (c, v) ∷ []
lay_last c v [] below = refl
lay_last c v (w ∷ ws) below =
    let under = below zero w (omega arith) in
    let less : nat_lt c w.0 ≡ false = grind (arith, nat_tests) in
    let same : nat_eq c w.0 ≡ false = grind (arith, nat_tests) in
    rw (less, same) (ap (λ more. w ∷ more) (lay_last c v ws (λ k d h. below (suc k) d (omega (arith, h)))))

pub rising_last : (c : ℕ) (v : ℤ) (ws : List Write) → All (λ w. w.0 < c) ws → IsRising ws → IsRising (ws ++ (c, v) ∷ [])
rising_last c v ws below rising =
    let P : List Write → Type 0 = λ pairs. IsRising pairs in
    subst P (lay_last c v ws below) (rising_lay c v ws rising)

pub below_next : (c : ℕ) (ws : List Write) → All (λ w. w.0 < c) ws → All (λ w. w.0 < c + 1) ws
below_next c ws below = λ k d h. let under = below k d h in omega (arith, under)

pub below_laid : (c : ℕ) (v : ℤ) (ws : List Write) → All (λ w. w.0 < c) ws → All (λ w. w.0 < c + 1) (lay c v ws)
below_laid c v ws below =
    let P : Write → Type 0 = λ w. w.0 < c + 1 in
    rw (lay_last c v ws below) (All-append P ws ((c, v) ∷ []) (below_next c ws below) (only (c, v) (omega arith)))
  where
    only : (w : Write) → w.0 < c + 1 → All (λ x. x.0 < c + 1) (w ∷ [])
    only w under = λ k d h. at k d h
      where
        at : (k : ℕ) (d : Write) → k < length (w ∷ []) → (get_or (w ∷ []) k d).0 < c + 1
        at zero d h = under
        at (suc k) d h = absurd (omega (arith, h))
