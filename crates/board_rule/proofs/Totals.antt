-- Sums over the views: one view changes, two views change, one view is added.
use Rattle.std.proofs.Common.{◌≡◌, ◌≢◌, ℕ, zero, suc, ◌+◌, ◌≤◌, List, [], ◌∷◌, ◌++◌, set, refl, sym, ap, arith}
use mathlib.Core.Option.{some, some-injective, some-ne-none}
use lib.ListN.{get_elem?}
use Rattle.board_rule.specs.Sums.{total}

module _ {V : Type 0} (f : V → ℕ) where
  pub total-set : (vs : List V) (j : ℕ) (v w : V) → get_elem? vs j ≡ some v → total f (set vs j w) + f v ≡ total f vs + f w
  total-set [] j v w e = absurd (some-ne-none v (sym e))
  total-set (x ∷ xs) zero v w e = let is : f x ≡ f v = ap f (some-injective x v e) in omega arith
  total-set (x ∷ xs) (suc j) v w e = let r = total-set xs j v w e in omega arith

  pub total-same : (vs : List V) (j : ℕ) (v w : V) → get_elem? vs j ≡ some v → f w ≡ f v → total f (set vs j w) ≡ total f vs
  total-same vs j v w e same = let r = total-set vs j v w e in omega arith

  pub total-one : (vs : List V) (j : ℕ) (v : V) → get_elem? vs j ≡ some v → f v ≤ total f vs
  total-one [] j v e = absurd (some-ne-none v (sym e))
  total-one (x ∷ xs) zero v e = let is : f x ≡ f v = ap f (some-injective x v e) in omega arith
  total-one (x ∷ xs) (suc j) v e = let r = total-one xs j v e in omega arith

  pub total-two : (vs : List V) (i j : ℕ) (v w : V) → get_elem? vs i ≡ some v → get_elem? vs j ≡ some w → i ≢ j → f v + f w ≤ total f vs
  total-two [] i j v w a b n = absurd (some-ne-none v (sym a))
  total-two (x ∷ xs) zero zero v w a b n = absurd (n refl)
  total-two (x ∷ xs) zero (suc j) v w a b n = let is : f x ≡ f v = ap f (some-injective x v a) in let r = total-one xs j w b in omega arith
  total-two (x ∷ xs) (suc i) zero v w a b n = let is : f x ≡ f w = ap f (some-injective x w b) in let r = total-one xs i v a in omega arith
  total-two (x ∷ xs) (suc i) (suc j) v w a b n = let r = total-two xs i j v w a b (λ e. n (ap suc e)) in omega arith

  pub total-snoc : (vs : List V) (w : V) → total f (vs ++ w ∷ []) ≡ total f vs + f w
  total-snoc [] w = omega arith
  total-snoc (x ∷ xs) w = let r = total-snoc xs w in omega arith

  pub total-none : (vs : List V) → ((j : ℕ) (v : V) → get_elem? vs j ≡ some v → f v ≡ 0) → total f vs ≡ 0
  total-none [] h = refl
  total-none (x ∷ xs) h = let a = h 0 x refl in let r = total-none xs (λ j v e. h (suc j) v e) in omega arith
