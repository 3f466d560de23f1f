-- The array that each cell belongs to.
use Rattle.std.proofs.Common.{◌≡◌, ℕ, zero, suc, ◌+◌, ◌-◌, ◌<◌, ◌≤◌, cond, Bool, true, false, List, [], ◌∷◌, ◌++◌, replicate, refl, ap, ◌∙◌, arith, append_assoc}
use Rattle.std.specs.Prelude.{nat_lt, slice_index_or}
use Rattle.std.proofs.lemmas.Bool.Decides.{nat_tests}
use Rattle.array_meaning.specs.Stores.{Arrays, cells_of}
use Rattle.site_walk.specs.Inside.Numbers.{array_at}
use Rattle.pipe_walk.specs.Inside.Owners.{owners_from}

in_first : (n x : ℕ) (ys : List ℕ) (c : ℕ) → c < n → slice_index_or (replicate n x ++ ys) c 0 ≡ x
in_first zero x ys c h = absurd (omega arith)
in_first (suc n) x ys zero h = refl
in_first (suc n) x ys (suc c) h = in_first n x ys c (omega arith)

in_later : (n x : ℕ) (ys : List ℕ) (c : ℕ) → n ≤ c → slice_index_or (replicate n x ++ ys) c 0 ≡ slice_index_or ys (c - n) 0
in_later zero x ys c h = ap (λ k. slice_index_or ys k 0) (let e : c ≡ c - 0 = omega arith in e)
in_later (suc n) x ys zero h = absurd (omega arith)
in_later (suc n) x ys (suc c) h = in_later n x ys c (omega arith) ∙ ap (λ k. slice_index_or ys k 0) (let e : c - n ≡ suc c - suc n = omega arith in e)

pub owner_is : (number : ℕ) (arrays : Arrays) (c : ℕ) → c < cells_of arrays → slice_index_or (owners_from number arrays) c 0 ≡ number + array_at arrays c
owner_is number [] c small = absurd (omega arith)
owner_is number (a ∷ more) c small = cases (nat_lt c a.1) (λ s. owner_is (number + 1) more (c - a.1) s) refl
  where
    cases : (b : Bool) → (c - a.1 < cells_of more → slice_index_or (owners_from (number + 1) more) (c - a.1) 0 ≡ (number + 1) + array_at more (c - a.1)) →
        nat_lt c a.1 ≡ b →
        slice_index_or (replicate a.1 number ++ owners_from (number + 1) more) c 0 ≡ number + cond b 0 (1 + array_at more (c - a.1))
    cases true rest e =
        let low : c < a.1 = grind (arith, nat_tests) in
        in_first a.1 number (owners_from (number + 1) more) c low ∙ (let z : number ≡ number + 0 = omega arith in z)
    cases false rest e =
        let high : a.1 ≤ c = grind (arith, nat_tests) in
        in_later a.1 number (owners_from (number + 1) more) c high
        ∙ rest (omega arith)
        ∙ (let z : (number + 1) + array_at more (c - a.1) ≡ number + (1 + array_at more (c - a.1)) = omega arith in z)

-- One more equal element.
pub replicate_more : (n x : ℕ) (ys : List ℕ) → (ys ++ replicate n x) ++ (x ∷ []) ≡ ys ++ replicate (n + 1) x
replicate_more n x ys =
    append_assoc ys (replicate n x) (x ∷ []) ∙ ap (λ zs. ys ++ zs) (last n) ∙ ap (λ m. ys ++ replicate m x) (let e : suc n ≡ n + 1 = omega arith in e)
  where
    last : (m : ℕ) → replicate m x ++ (x ∷ []) ≡ replicate (suc m) x
    last zero = refl
    last (suc m) = ap (λ zs. x ∷ zs) (last m)
