-- The pieces of printed texts: names, numbers, words and signs.
use Rattle.std.proofs.Common.{◌≡◌, ℕ, ℤ, suc, pos, negsuc, ◌+◌, ◌<◌, ◌≤◌, ◌==◌, List, [], ◌∷◌, ◌++◌, length, take, true, false, nat_le, Option, None, Some, refl, sym, ap, ◌∙◌, subst, arith, one-add, fold, ◌^◌}
use Rattle.std.specs.List.{prefix_len}
use Rattle.std.specs.Fmt.{decimal, signed_decimal}
use Rattle.std.proofs.Math.Seq.{take-append_seam}
use Rattle.std.proofs.lemmas.Bool.Decides.{nat_tests}
use Rattle.std.proofs.lemmas.Str.Parse.{IsNumeralModel, IsDigitsTest, numerals_by_fold}
use Rattle.std.proofs.lemmas.Fmt.{digits_decimal, digits_value-decimal, decimal_is_IsNumeral}
use Rattle.std.specs.Str.{byte}
use Rattle.array_tokens.specs.Literals.{greatest_literal}
use Rattle.array_tokens.specs.Lexemes.{Lexeme, name, number, word, sign, Spot, piece, front_of, is_ascii, is_name_byte, is_letter, is_digit, is_blank, word_of, named, name_front, number_front, number_of_digits as spelled_value}
use Rattle.array_tokens.specs.declared.token.Word.{Word}
use Rattle.array_tokens.specs.declared.token.Sign.{Sign}
use Rattle.array_tokens.specs.declared.token.Sign.TheVariants as signs
use Rattle.array_tokens.proofs.Cutting.{digit_step}
use Rattle.array_lang.specs.Grammar.{SpellsBound, plain_bound, negative_bound}
use Rattle.array_print.specs.Writable.{AreNameBytes, IsName, IsBound}
use Rattle.array_print.proofs.Cuts.{One, one, Nothing, nothing, Then, joined, AreAscii, NoName, Anything, CutsInto, cuts_both, cuts_as, cuts_one, cuts_space}

name_byte_ascii : (b : ℕ) → is_name_byte b ≡ true → is_ascii b ≡ true
name_byte_ascii b h = grind (arith, nat_tests)

letter_ascii : (b : ℕ) → is_letter b ≡ true → is_ascii b ≡ true
letter_ascii b h = grind (arith, nat_tests)

name_ascii : (bs : List ℕ) → AreNameBytes bs → AreAscii bs
name_ascii [] h = tt
name_ascii (b ∷ bs) h = (name_byte_ascii b h.0, name_ascii bs h.1)

prefix_name : (bs rest : List ℕ) → AreNameBytes bs → NoName rest → prefix_len is_name_byte (bs ++ rest) ≡ length bs
prefix_name [] [] a h = refl
prefix_name [] (r ∷ rest) a h = rw h refl
prefix_name (b ∷ bs) rest a h = rw a.0 (ap (λ n. 1 + n) (prefix_name bs rest a.1 h) ∙ one-add (length bs))

letter_no_blank : (b : ℕ) → is_letter b ≡ true → (is_blank b ≡ false) × ((b == byte "#") ≡ false)
letter_no_blank b h = (grind (arith, nat_tests), grind (arith, nat_tests))

-- A name or a word.
front_named : (b : ℕ) (bs rest : List ℕ) (o : Option Word) → is_letter b ≡ true → AreNameBytes bs → word_of (b ∷ bs) ≡ o → NoName rest → (piece (named (b ∷ bs) o), suc (length bs)) ≡ front_of b (b ∷ (bs ++ rest))
front_named b bs rest o letter bytes w h =
    let tail : prefix_len is_name_byte (bs ++ rest) ≡ length bs = prefix_name bs rest bytes h in
    let plain = letter_no_blank b letter in
    let text : take (suc (length bs)) (b ∷ (bs ++ rest)) ≡ b ∷ bs = ap (λ l. b ∷ l) (take-append_seam bs rest) in
    let front : (piece (named (b ∷ bs) (word_of (b ∷ bs))), suc (length bs)) ≡ (piece (named (b ∷ bs) o), suc (length bs)) = ap (λ q. (piece (named (b ∷ bs) q), suc (length bs))) w in
    sym (rw (plain.0, plain.1, letter, tail, one-add) (ap (λ l. (name_front l, suc (length bs))) text ∙ front))

pub cuts_name : (b : List ℕ) → IsName b → CutsInto b (One (name b)) NoName
cuts_name [] n = absurd n
cuts_name (b ∷ bs) n = cuts_one b bs (name (b ∷ bs)) (letter_ascii b n.0, name_ascii bs n.1) (λ rest h. front_named b bs rest None n.0 n.1 n.2 h)

pub cuts_word : (b : ℕ) (bs : List ℕ) (w : Word) → is_letter b ≡ true → AreNameBytes bs → word_of (b ∷ bs) ≡ Some w → CutsInto (b ∷ bs) (One (word w)) NoName
cuts_word b bs w letter bytes is = cuts_one b bs (word w) (letter_ascii b letter, name_ascii bs bytes) (λ rest h. front_named b bs rest (Some w) letter bytes is h)

-- A sign of one byte that no other begins with.
pub cuts_sign : (b : ℕ) (g : Sign) → is_ascii b ≡ true → (piece (sign g), 1) ≡ front_of b (b ∷ []) → ((c : ℕ) (rest : List ℕ) → (piece (sign g), 1) ≡ front_of b (b ∷ c ∷ rest)) → CutsInto (b ∷ []) (One (sign g)) Anything
cuts_sign b g small alone before = cuts_one b [] (sign g) (small, tt) (λ rest h. either rest)
  where
    either : (rest : List ℕ) → (piece (sign g), 1) ≡ front_of b (b ∷ rest)
    either [] = alone
    either (c ∷ rest) = before c rest

pub cuts_open_index : CutsInto (91 ∷ []) (One (sign signs.OpenIndex)) Anything
cuts_open_index = cuts_sign 91 signs.OpenIndex refl refl (λ c rest. refl)

pub cuts_close_index : CutsInto (93 ∷ []) (One (sign signs.CloseIndex)) Anything
cuts_close_index = cuts_sign 93 signs.CloseIndex refl refl (λ c rest. refl)

pub cuts_open_group : CutsInto (40 ∷ []) (One (sign signs.OpenGroup)) Anything
cuts_open_group = cuts_sign 40 signs.OpenGroup refl refl (λ c rest. refl)

pub cuts_close_group : CutsInto (41 ∷ []) (One (sign signs.CloseGroup)) Anything
cuts_close_group = cuts_sign 41 signs.CloseGroup refl refl (λ c rest. refl)

pub cuts_open_block : CutsInto (123 ∷ []) (One (sign signs.OpenBlock)) Anything
cuts_open_block = cuts_sign 123 signs.OpenBlock refl refl (λ c rest. refl)

pub cuts_close_block : CutsInto (125 ∷ []) (One (sign signs.CloseBlock)) Anything
cuts_close_block = cuts_sign 125 signs.CloseBlock refl refl (λ c rest. refl)

pub cuts_semicolon : CutsInto (59 ∷ []) (One (sign signs.Semicolon)) Anything
cuts_semicolon = cuts_sign 59 signs.Semicolon refl refl (λ c rest. refl)

pub cuts_minus : CutsInto (45 ∷ []) (One (sign signs.Minus)) Anything
cuts_minus = cuts_sign 45 signs.Minus refl refl (λ c rest. refl)

pub cuts_range : CutsInto (46 ∷ 46 ∷ []) (One (sign signs.Range)) Anything
cuts_range = cuts_one 46 (46 ∷ []) (sign signs.Range) (refl, (refl, tt)) (λ rest h. refl)

-- Text behind a space, and before one.
pub cuts_after_space : {R : List Spot → List Spot → Type 0} {Safe : List ℕ → Type 0} {text : List ℕ} → CutsInto text R Safe → CutsInto (32 ∷ text) R Safe
cuts_after_space {R} f = cuts_as (cuts_both cuts_space f (λ rest h. tt)) (λ s t d. drop_first d)
  where
    drop_first : {s t : List Spot} → Then Nothing R s t → R s t
    drop_first (joined nothing d) = d

pub cuts_before : {R : List Spot → List Spot → Type 0} {Safe : List ℕ → Type 0} {text gap : List ℕ} → CutsInto gap Nothing Anything → ((rest : List ℕ) → Safe (gap ++ rest)) → CutsInto text R Safe → CutsInto (text ++ gap) R Anything
cuts_before {R} g safe f = cuts_as (cuts_both f g (λ rest h. safe rest)) (λ s t d. drop_last d)
  where
    drop_last : {s t : List Spot} → Then R Nothing s t → R s t
    drop_last (joined d nothing) = d

abbrev pub BlankFirst : List ℕ → Type 0
BlankFirst [] = ⊥
BlankFirst (b ∷ rest) = b ≡ 32

blank_sign : (b : ℕ) (bs : List ℕ) (l : Lexeme) → ((rest : List ℕ) → (piece l, suc (length bs)) ≡ front_of b (b ∷ (bs ++ 32 ∷ rest))) → (rest : List ℕ) → BlankFirst rest → (piece l, suc (length bs)) ≡ front_of b (b ∷ (bs ++ rest))
blank_sign b bs l f [] h = absurd h
blank_sign b bs l f (c ∷ rest) h = rw h (f rest)

-- A sign with one space on both sides.
pub cuts_spaced : (b : ℕ) (bs : List ℕ) (g : Sign) → AreAscii (b ∷ bs) → ((rest : List ℕ) → (piece (sign g), suc (length bs)) ≡ front_of b (b ∷ (bs ++ 32 ∷ rest))) → CutsInto (32 ∷ ((b ∷ bs) ++ 32 ∷ [])) (One (sign g)) Anything
cuts_spaced b bs g small f = cuts_after_space (cuts_before cuts_space (λ rest. refl) (cuts_one {Safe = BlankFirst} b bs (sign g) small (blank_sign b bs (sign g) f)))

-- Numbers.

abbrev AreDigits : List ℕ → Type 0
AreDigits [] = Unit {0}
AreDigits (b ∷ bs) = (is_digit b ≡ true) × AreDigits bs

digits_test : IsDigitsTest AreDigits
digits_test = record {
  empty = tt;
  parts = λ c cs p. (let h = p.0 in grind (arith, nat_tests), p.1);
  more = λ c cs h p. (grind (arith, nat_tests), p);
}

own : IsNumeralModel AreDigits spelled_value
own = numerals_by_fold AreDigits digits_test (λ n ds. fold digit_step n ds) (record { empty = λ n. refl; more = λ n c cs h. refl })

no_digit : (b : ℕ) → is_name_byte b ≡ false → is_digit b ≡ false
no_digit b h = grind (arith, nat_tests)

digit_ascii : (b : ℕ) → is_digit b ≡ true → is_ascii b ≡ true
digit_ascii b h = grind (arith, nat_tests)

digits_ascii : (bs : List ℕ) → AreDigits bs → AreAscii bs
digits_ascii [] h = tt
digits_ascii (b ∷ bs) h = (digit_ascii b h.0, digits_ascii bs h.1)

prefix_digits : (bs rest : List ℕ) → AreDigits bs → NoName rest → prefix_len is_digit (bs ++ rest) ≡ length bs
prefix_digits [] [] a h = refl
prefix_digits [] (r ∷ rest) a h = rw (no_digit r h) refl
prefix_digits (b ∷ bs) rest a h = rw a.0 (ap (λ n. 1 + n) (prefix_digits bs rest a.1 h) ∙ one-add (length bs))

digit_alone : (b : ℕ) → is_digit b ≡ true → (is_blank b ≡ false) × ((b == byte "#") ≡ false) × (is_letter b ≡ false)
digit_alone b h = (grind (arith, nat_tests), grind (arith, nat_tests), grind (arith, nat_tests))

small_front : (ds : List ℕ) → nat_le (spelled_value ds) greatest_literal ≡ true → number_front ds ≡ piece (number (spelled_value ds))
small_front ds h = rw h refl

front_number : (b : ℕ) (bs rest : List ℕ) → AreDigits (b ∷ bs) → nat_le (spelled_value (b ∷ bs)) greatest_literal ≡ true → NoName rest → (piece (number (spelled_value (b ∷ bs))), suc (length bs)) ≡ front_of b (b ∷ (bs ++ rest))
front_number b bs rest a small h =
    let tail : prefix_len is_digit (bs ++ rest) ≡ length bs = prefix_digits bs rest a.1 h in
    let alone = digit_alone b a.0 in
    let text : take (suc (length bs)) (b ∷ (bs ++ rest)) ≡ b ∷ bs = ap (λ l. b ∷ l) (take-append_seam bs rest) in
    sym (rw (alone.0, alone.1, alone.2, a.0, tail, one-add) (ap (λ l. (number_front l, suc (length bs))) text ∙ ap (λ f. (f, suc (length bs))) (small_front (b ∷ bs) small)))

digits_cut : (ds : List ℕ) → 0 < length ds → AreDigits ds → nat_le (spelled_value ds) greatest_literal ≡ true → CutsInto ds (One (number (spelled_value ds))) NoName
digits_cut [] h a small = absurd (omega arith)
digits_cut (b ∷ bs) h a small = cuts_one b bs (number (spelled_value (b ∷ bs))) (digits_ascii (b ∷ bs) a) (λ rest s. front_number b bs rest a small s)

pub cuts_number : (n : ℕ) → n ≤ greatest_literal → CutsInto (decimal n) (One (number n)) NoName
cuts_number n small =
    let fits : n < 2 ^ 64 = omega arith in
    let v : spelled_value (decimal n) ≡ n = digits_value-decimal own n fits in
    let le : nat_le n greatest_literal ≡ true = grind (arith, nat_tests) in
    subst (λ m. CutsInto (decimal n) (One (number m)) NoName) v
    (digits_cut (decimal n) (decimal_is_IsNumeral n fits).0.0 (digits_decimal own n fits) (ap (λ m. nat_le m greatest_literal) v ∙ le))

-- The bound of a loop.
abbrev Bound : ℤ → List Spot → List Spot → Type 0
Bound v s t = SpellsBound s t v

bound_plain : (n : ℕ) (s t : List Spot) → One (number n) s t → Bound (pos n) s t
bound_plain n s t one = plain_bound

bound_negative : (n : ℕ) (s t : List Spot) → Then (One (sign signs.Minus)) (One (number (suc n))) s t → Bound (negsuc n) s t
bound_negative n s t (joined one one) = negative_bound {v = suc n}

pub cuts_bound : (v : ℤ) → IsBound v → CutsInto (signed_decimal v) (λ s t. SpellsBound s t v) NoName
cuts_bound (pos n) h = cuts_as (cuts_number n h) (bound_plain n)
cuts_bound (negsuc n) h = cuts_as (cuts_both cuts_minus (cuts_number (suc n) h) (λ rest s. tt)) (bound_negative n)
