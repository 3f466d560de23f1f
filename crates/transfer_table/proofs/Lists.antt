-- Reads of a list at an index.
use Rattle.std.proofs.Common.{◌≡◌, ℕ, zero, suc, ◌<◌, List, [], ◌∷◌, length, get_or, replicate, refl, arith}

-- Each index of a replicated list, also past its end, reads the same.
pub replicate_at : {A : Type 0} (n i : ℕ) (a : A) → get_or (replicate n a) i a ≡ a
replicate_at zero i a = refl
replicate_at (suc n) zero a = refl
replicate_at (suc n) (suc i) a = replicate_at n i a

-- An index within the list reads the same for any default.
pub any_default : {A : Type 0} (xs : List A) (i : ℕ) (d e : A) → i < length xs → get_or xs i d ≡ get_or xs i e
any_default [] i d e lt = absurd (omega arith)
any_default (x ∷ xs) zero d e lt = refl
any_default (x ∷ xs) (suc i) d e lt = any_default xs i d e (omega arith)
