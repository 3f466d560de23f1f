-- Comparisons of bytes, one by one.
use Rattle.std.proofs.Common.{◌≡◌, ℕ, ◌+◌, ◌<◌, ◌&&◌, Bool, true, false, List, [], ◌∷◌, ◌++◌, length, take, get_or, refl, sym, ap, ◌∙◌, arith}
use Rattle.std.specs.Prelude.{nat_eq}
use Rattle.std.specs.Cmp.Lexicographic.{pointwise}
use Rattle.std.proofs.lemmas.List.{length-take-le, take_more}

and_assoc : (a b c : Bool) → (a && (b && c)) ≡ ((a && b) && c)
and_assoc true b c = refl
and_assoc false b c = refl

and_true : (a : Bool) → (a && true) ≡ a
and_true true = refl
and_true false = refl

and_false : (a : Bool) → (a && false) ≡ false
and_false true = refl
and_false false = refl

-- Byte strings of different lengths differ.
pub bytes_uneven : (xs ys : List ℕ) → (length xs ≡ length ys → ⊥) → pointwise nat_eq xs ys ≡ false
bytes_uneven [] [] h = absurd (h refl)
bytes_uneven [] (y ∷ ys) h = refl
bytes_uneven (x ∷ xs) [] h = refl
bytes_uneven (x ∷ xs) (y ∷ ys) h = ap (λ r. nat_eq x y && r) (bytes_uneven xs ys (λ e. h (omega arith))) ∙ and_false (nat_eq x y)

one_after : (xs ys : List ℕ) (x y : ℕ) → length xs ≡ length ys → pointwise nat_eq (xs ++ x ∷ []) (ys ++ y ∷ []) ≡ (pointwise nat_eq xs ys && nat_eq x y)
one_after [] [] x y e = and_true (nat_eq x y)
one_after [] (b ∷ ys) x y e = absurd (omega (arith, e))
one_after (a ∷ xs) [] x y e = absurd (omega (arith, e))
one_after (a ∷ xs) (b ∷ ys) x y e =
    ap (λ r. nat_eq a b && r) (one_after xs ys x y (omega (arith, e))) ∙ and_assoc (nat_eq a b) (pointwise nat_eq xs ys) (nat_eq x y)

pub byte_next : (a b : List ℕ) (i : ℕ) → i < length a → i < length b →
    (pointwise nat_eq (take i a) (take i b) && nat_eq (get_or a i 0) (get_or b i 0)) ≡ pointwise nat_eq (take (i + 1) a) (take (i + 1) b)
byte_next a b i h k =
    let long : length (take i a) ≡ length (take i b) = length-take-le i a (omega (arith, h)) ∙ sym (length-take-le i b (omega (arith, k))) in
    sym (ap (λ xs. pointwise nat_eq xs (take (i + 1) b)) (take_more a i 0 h)
    ∙ ap (λ ys. pointwise nat_eq (take i a ++ get_or a i 0 ∷ []) ys) (take_more b i 0 k)
    ∙ one_after (take i a) (take i b) (get_or a i 0) (get_or b i 0) long)
