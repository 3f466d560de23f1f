-- Arithmetic that stops at the greatest number of 64 bits.
use Rattle.std.proofs.Common.{◌≡◌, ℕ, zero, suc, ◌+◌, ◌*◌, ◌-◌, ◌^◌, ◌≤◌, min, arith, refl, inl, inr}
use Rattle.std.proofs.lemmas.Bool.{cases_lt}
use Rattle.site_counts.specs.Capped.{capped}

least : (n x m : ℕ) → m ≤ x → m ≤ suc n * x
least n x m h = grind arith

pub times_min : (n x m : ℕ) → min (n * min x m) m ≡ min (n * x) m
times_min zero x m = grind arith
times_min (suc n) x m =
    elim (cases_lt x m) [
      | inl e ↦ (let small : min x m ≡ x = omega (arith, e) in rw small refl)
      | inr e ↦ (let big : min x m ≡ m = omega (arith, e) in let a = least n m m (omega arith) in let b = least n x m e in rw big (omega (arith, a, b)))
    ]

pub capped_product : (n x y : ℕ) → y ≡ capped x → capped (n * y) ≡ capped (n * x)
capped_product n x y e = rw e (times_min n x (2 ^ 64 - 1))

pub capped_turns : (n x y : ℕ) → y ≡ capped x → capped (n * capped (y + 1)) ≡ capped (n * (1 + x))
capped_turns n x y e = capped_product n (1 + x) (capped (y + 1)) (omega arith)
