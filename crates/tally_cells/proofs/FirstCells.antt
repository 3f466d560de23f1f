-- A store whose first cells are written one by one.
use Rattle.std.proofs.Common.{◌≡◌, ℕ, zero, suc, ◌+◌, ◌-◌, ◌<◌, [], ◌∷◌, ◌++◌, length, take, replicate, pos, refl, ap, arith}
use Rattle.array_meaning.specs.Stores.{Store, at_cell, written}

-- Of n cells, those below c are written.
pub next_cell : (s : Store) (c n : ℕ) → c < n → c < length s
    → written (take c s ++ replicate (n - c) (pos 0)) c (at_cell s c) ≡ take (c + 1) s ++ replicate (n - (c + 1)) (pos 0)
next_cell [] c n lt inside = absurd (omega (arith, inside))
next_cell (x ∷ s) zero zero lt inside = absurd (omega (arith, lt))
next_cell (x ∷ s) zero (suc n) lt inside =
    let all : suc n - zero ≡ suc n = omega arith in
    let rest : suc n - (zero + 1) ≡ n = omega arith in
    rw (all, rest) refl
next_cell (x ∷ s) (suc c) zero lt inside = absurd (omega (arith, lt))
next_cell (x ∷ s) (suc c) (suc n) lt inside =
    let before : suc n - suc c ≡ n - c = omega arith in
    let after : suc n - (suc c + 1) ≡ n - (c + 1) = omega arith in
    let place : suc c + 1 ≡ suc (c + 1) = omega arith in
    rw (before, after, place) (ap (λ zs. x ∷ zs) (next_cell s c n (omega (arith, lt)) (omega (arith, inside))))
