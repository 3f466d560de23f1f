-- The greatest number of a list, from the numbers of its parts.
use Rattle.std.proofs.Common.{◌≡◌, ◌<◌, ◌+◌, ℕ, max, List, [], ◌∷◌, ◌++◌, length, get_or, take, drop, arith, sym, ap, ◌∙◌}
use Rattle.std.proofs.lemmas.List.{take-append-drop, take_more}
use Rattle.greatest_number.specs.Numbers.{greatest_of}

pub greatest_append : (xs ys : List ℕ) → greatest_of (xs ++ ys) ≡ max (greatest_of xs) (greatest_of ys)
greatest_append [] ys = omega arith
greatest_append (x ∷ xs) ys = omega (arith, greatest_append xs ys)

pub greatest_halves : (m : ℕ) (xs : List ℕ) → greatest_of xs ≡ max (greatest_of (take m xs)) (greatest_of (drop m xs))
greatest_halves m xs = sym (ap greatest_of (take-append-drop m xs)) ∙ greatest_append (take m xs) (drop m xs)

pub greatest_of_more : (xs : List ℕ) (i : ℕ) → i < length xs
    → greatest_of (take (i + 1) xs) ≡ max (greatest_of (take i xs)) (get_or xs i 0)
greatest_of_more xs i lt =
    let last = ap greatest_of (take_more xs i 0 lt) ∙ greatest_append (take i xs) (get_or xs i 0 ∷ []) in
    omega (arith, last)
