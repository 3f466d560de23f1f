-- Sums over logs, and how one log's change moves them.
use Rattle.std.proofs.Common.{◌≡◌, ◌≢◌, ℕ, zero, suc, ◌+◌, List, [], ◌∷◌, ◌++◌, set, sym, refl, ap, ◌∙◌, subst, ⊎_elim, arith, if◌then◌else◌, ◌==◌}
use mathlib.Core.Option.{some, some-ne-none}
use lib.ListN.{get_elem?}
use Rattle.crossbeam_deque.proofs.Lists.{at_set, at_snoc}
use Rattle.deque_rows.specs.declared.account.Log.{Log}
use Rattle.deque_rows.specs.Account.{times, total}

pub times-append : (x : ℕ) (xs ys : List ℕ) → times x (xs ++ ys) ≡ times x xs + times x ys
times-append x [] ys = omega arith
times-append x (y ∷ xs) ys = let rest = times-append x xs ys in let n = (if y == x then 1 else 0) in ap (λ k. n + k) rest ∙ (omega arith)

pub total_set : (f : Log → ℕ) (logs : List Log) (port : ℕ) (v w : Log) → get_elem? logs port ≡ some v → total f (set logs port w) + f v ≡ total f logs + f w
total_set f [] port v w at = absurd (some-ne-none v (sym at))
total_set f (u ∷ logs) zero v w at = let is : u ≡ v = cc at in let same = ap f is in omega (arith, same)
total_set f (u ∷ logs) (suc port) v w at = let rest = total_set f logs port v w at in omega (arith, rest)

pub total_snoc : (f : Log → ℕ) (logs : List Log) (w : Log) → total f (logs ++ w ∷ []) ≡ total f logs + f w
total_snoc f [] w = omega arith
total_snoc f (u ∷ logs) w = let rest = total_snoc f logs w in omega (arith, rest)

-- A property of each log, after one log changed.
pub each_set : (F : ℕ → Log → Type 0) (logs : List Log) (port : ℕ) (w : Log) → F port w → ((j : ℕ) (u : Log) → j ≢ port → get_elem? logs j ≡ some u → F j u) → (j : ℕ) (u : Log) → get_elem? (set logs port w) j ≡ some u → F j u
each_set F logs port w mine others j u e = ⊎_elim (λ (x : (j ≡ port) × (w ≡ u)). subst (λ (y : ℕ × Log). F y.0 y.1) (λ i. (sym x.0 i, x.1 i)) mine)
    (λ (x : (j ≢ port) × (get_elem? logs j ≡ some u)). others j u x.0 x.1) (at_set logs port j w u e)

pub each_snoc : (F : ℕ → Log → Type 0) (logs : List Log) (w : Log) → ((j : ℕ) → F j w) → ((j : ℕ) (u : Log) → get_elem? logs j ≡ some u → F j u) → (j : ℕ) (u : Log) → get_elem? (logs ++ w ∷ []) j ≡ some u → F j u
each_snoc F logs w mine others j u e = ⊎_elim (λ x. others j u x) (λ (is : w ≡ u). subst (F j) is (mine j)) (at_snoc logs w u j e)

pub zero_all : (f : Log → ℕ) (logs : List Log) → total (λ v. v.parts) logs ≡ 0 → ((port : ℕ) (v : Log) → get_elem? logs port ≡ some v → v.parts ≡ 0 → f v ≡ 0) → total f logs ≡ 0
zero_all f [] none spent = refl
zero_all f (u ∷ logs) none spent =
    let here = spent 0 u refl (omega (arith, none)) in
    let rest = zero_all f logs (omega (arith, none)) (λ port v at. spent (suc port) v at) in
    omega (arith, here, rest)

-- If one pass has all parts, a sum is that pass's own.
pub total_whole : (f : Log → ℕ) (logs : List Log) (port : ℕ) (v none_of : Log) → get_elem? logs port ≡ some v → total (λ u. u.parts) logs ≡ v.parts → none_of.parts ≡ 0 → f none_of ≡ 0
    → ((j : ℕ) (u : Log) → get_elem? logs j ≡ some u → u.parts ≡ 0 → f u ≡ 0) → total f logs ≡ f v
total_whole f logs port v none_of at whole none here others =
    let parts = total_set (λ u. u.parts) logs port v none_of at in
    let sums = total_set f logs port v none_of at in
    let rest = zero_all f (set logs port none_of) (omega (arith, parts, whole, none)) (each_set (λ _ u. u.parts ≡ 0 → f u ≡ 0) logs port none_of (λ _. here) (λ j u _ e. others j u e)) in
    omega (arith, sums, rest, here)
