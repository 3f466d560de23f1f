-- Words without a given byte: a cut at that byte gives them back.
use Rattle.std.proofs.Common.{◌≡◌, ◌<◌, ◌≤◌, ◌==◌, ℕ, Bool, true, false, ◌&&◌, nat_le, List, [], ◌∷◌, length, get_or, All, refl, subst, ap, ◌∙◌, arith, ◌^◌}
use Rattle.std.proofs.lemmas.Grind.{common_steps}
use Rattle.std.proofs.lemmas.Bool.Decides.{nat_tests}
use Rattle.std.specs.Fmt.{decimal}
use Rattle.std.specs.Int.{IsInRange}
use Rattle.std.specs.List.{slice_split, join_with_byte}
use Rattle.std.proofs.lemmas.Bool.{eq-eqb, eqb-true}
use Rattle.std.proofs.lemmas.List.Elements.{All-append, All-cons, All-nil}
use Rattle.std.proofs.lemmas.List.Splits.{slice_split_none, slice_split_at}
use Rattle.std.proofs.lemmas.Str.Parse.{digit_at}
use Rattle.journal_text.proofs.Numbers.{digits_of_decimal}
use Rattle.journal_text.proofs.Steps.{not_equal}

-- The word hasn't the byte.
abbrev pub IsFree : ℕ → List ℕ → Type 0
IsFree c word = All (λ (byte : ℕ). (byte == c) ≡ false) word

abbrev pub AreFree : ℕ → List (List ℕ) → Type 0
AreFree c [] = Unit {0}
AreFree c (word ∷ more) = IsFree c word × AreFree c more

pub split_joined : (c : ℕ) (first : List ℕ) (more : List (List ℕ)) → AreFree c (first ∷ more) → slice_split (λ byte. byte == c) (join_with_byte c (first ∷ more)) ≡ first ∷ more
split_joined c first [] free = slice_split_none (λ byte. byte == c) first free.0
split_joined c first (next ∷ more) free =
    slice_split_at (λ byte. byte == c) first c (join_with_byte c (next ∷ more)) free.0 (eq-eqb c c refl)
    ∙ ap (λ (words : List (List ℕ)). first ∷ words) (split_joined c next more free.1)

-- Words without a byte stay without it if they are joined by another byte.
pub joined_free : (c d : ℕ) (first : List ℕ) (more : List (List ℕ)) → (d == c) ≡ false → AreFree c (first ∷ more) → IsFree c (join_with_byte d (first ∷ more))
joined_free c d first [] other free = free.0
joined_free c d first (next ∷ more) other free =
    All-append (λ (byte : ℕ). (byte == c) ≡ false) first (d ∷ join_with_byte d (next ∷ more)) free.0
    (All-cons (λ (byte : ℕ). (byte == c) ≡ false) d (join_with_byte d (next ∷ more)) other (joined_free c d next more other free.1))

in_range_other : (byte c : ℕ) → c < 48 → IsInRange 48 57 byte → (byte == c) ≡ false
in_range_other byte c low range = not_equal (byte == c) (λ e. let same : byte ≡ c = eqb-true byte c e in omega (arith, same, range.0))

get_or_any : (xs : List ℕ) (k d e : ℕ) → k < length xs → get_or xs k d ≡ get_or xs k e
get_or_any xs k d e at = grind (arith, common_steps)

-- A decimal number has only digits.
pub decimal_free : (c n : ℕ) → c < 48 → n < 2 ^ 64 → IsFree c (decimal n)
decimal_free c n low small k d at =
    in_range_other (get_or (decimal n) k d) c low
    (subst (IsInRange 48 57) (get_or_any (decimal n) k 0 d at) (digit_at (decimal n) k (digits_of_decimal n small) at))

pub lettered_free : (c letter n : ℕ) → c < 48 → 48 ≤ letter → n < 2 ^ 64 → IsFree c (letter ∷ decimal n)
lettered_free c letter n low high small =
    All-cons (λ (byte : ℕ). (byte == c) ≡ false) letter (decimal n) (not_equal (letter == c) (λ e. let same : letter ≡ c = eqb-true letter c e in omega arith)) (decimal_free c n low small)

-- The word is of digits and letters.
abbrev pub is_high : List ℕ → Bool
is_high [] = true
is_high (byte ∷ more) = nat_le 48 byte && is_high more

high_both : (a b : Bool) → (a && b) ≡ true → (a ≡ true) × (b ≡ true)
high_both true b e = (refl, e)
high_both false b e = cc e

high_other : (byte c : ℕ) → c < 48 → nat_le 48 byte ≡ true → (byte == c) ≡ false
high_other byte c low high = not_equal (byte == c) (λ e. let same : byte ≡ c = eqb-true byte c e in grind (arith, nat_tests))

pub high_free : (c : ℕ) → c < 48 → (word : List ℕ) → is_high word ≡ true → IsFree c word
high_free c low [] high = All-nil (λ (byte : ℕ). (byte == c) ≡ false)
high_free c low (byte ∷ more) high =
    let parts = high_both (nat_le 48 byte) (is_high more) high in
    All-cons (λ (byte : ℕ). (byte == c) ≡ false) byte more (high_other byte c low parts.0) (high_free c low more parts.1)
