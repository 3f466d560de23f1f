-- Lists that are cut at the elements that pass a test.
use Rattle.std.proofs.Common.{◌≡◌, ◌+◌, ◌<◌, ◌≤◌, ℕ, Bool, cond, nat_lt, List, [], ◌∷◌, length, take, drop, Some, None, sym, ap, ◌∙◌, arith}
use Rattle.std.specs.List.{slice_split, position, position_or_len}
use Rattle.std.proofs.lemmas.List.Splits.{slice_split_none, slice_split_first}
use Rattle.std.proofs.lemmas.List.Sums.{fails_before_first}
use Rattle.std.proofs.lemmas.Bool.Decides.{nat_tests}

no_place : (k n : ℕ) → cond (nat_lt k n) (Some k) None ≡ None → n ≤ k
no_place k n e = grind (arith, nat_tests)

some_place : (k n i : ℕ) → cond (nat_lt k n) (Some k) None ≡ Some i → (k < n) × (i ≡ k)
some_place k n i e = grind (arith, nat_tests)

-- A list without an element that passes is one piece.
pub uncut : {X : Type 0} (p : X → Bool) (xs : List X) → position p xs ≡ None → slice_split p xs ≡ xs ∷ []
uncut p xs e = slice_split_none p xs (λ k d h. fails_before_first p xs k d (omega (arith, no_place (position_or_len p xs) (length xs) e)))

-- The first element that passes ends the first piece.
pub cut_at : {X : Type 0} (p : X → Bool) (xs : List X) (i : ℕ) (d : X) → position p xs ≡ Some i → slice_split p xs ≡ take i xs ∷ slice_split p (drop (i + 1) xs)
cut_at p xs i d e =
    let at = some_place (position_or_len p xs) (length xs) i e in
    slice_split_first p xs d at.0 ∙ sym (ap (λ (k : ℕ). take k xs ∷ slice_split p (drop (k + 1) xs)) at.1)

pub cut_within : {X : Type 0} (p : X → Bool) (xs : List X) (i : ℕ) → position p xs ≡ Some i → i < length xs
cut_within p xs i e =
    let at = some_place (position_or_len p xs) (length xs) i e in omega (arith, at.0, at.1)
