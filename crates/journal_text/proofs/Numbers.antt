-- Words that spell numbers.
use Rattle.std.proofs.Common.{◌≡◌, ◌≢◌, ◌&&◌, ◌<◌, ◌≤◌, ◌^◌, ℕ, zero, suc, Bool, true, false, cond, nat_le, List, length, take, get_or, ◌==◌, Some, None, refl, sym, ap, subst, ◌∙◌, arith}
use Rattle.std.specs.Fmt.{decimal}
use Rattle.std.specs.Int.{IsInRange}
use Rattle.std.specs.Str.Parse.{digits_value, AllDigits}
use Rattle.std.proofs.lemmas.Fmt.{digits_decimal, digits_value-decimal, decimal-digits_value, decimal_nonempty, first_decimal, decimal_digit, decimal_injective}
use Rattle.std.proofs.lemmas.Str.Parse.{IsNumeralModel, numerals_by_value, tells_digits, digit_at, digits_value-take-le}
use Rattle.std.proofs.lemmas.Slice.Eq.{bytes_eq-Decides}
use Rattle.std.proofs.lemmas.Bool.{eqb-true, eq-eqb}
use Rattle.std.proofs.lemmas.Bool.Decides.{nat_tests}
use Rattle.journal_text.specs.Reading.{number_up_to, spells, is_word}

same_answer : (a b : Bool) → (a ≡ true → b ≡ true) → (b ≡ true → a ≡ true) → a ≡ b
same_answer true b to from = sym (to refl)
same_answer false true to from = from refl
same_answer false false to from = refl

never_true : (b : Bool) → (b ≡ true → ⊥) → b ≡ false
never_true true never = absurd (never refl)
never_true false never = refl

own : IsNumeralModel (AllDigits 10) (digits_value 10)
own = numerals_by_value (AllDigits 10) tells_digits

pub word_is : (text word : List ℕ) → is_word text word ≡ true → word ≡ text
word_is text word e = (bytes_eq-Decides word text).0 e

pub is_word_itself : (text : List ℕ) → is_word text text ≡ true
is_word_itself text = (bytes_eq-Decides text text).1 refl

pub value_of_decimal : (n : ℕ) → n < 2 ^ 64 → digits_value 10 (decimal n) ≡ n
value_of_decimal n small = digits_value-decimal own n small

pub digits_of_decimal : (n : ℕ) → n < 2 ^ 64 → AllDigits 10 (decimal n)
digits_of_decimal n small = digits_decimal own n small

found : (small same : Bool) (value n : ℕ) → cond (small && same) (Some value) None ≡ Some n → (small ≡ true) × (same ≡ true) × (value ≡ n)
found true true value n e = (refl, refl, cc e)
found true false value n e = cc e
found false same value n e = cc e

missed : (small same : Bool) (value : ℕ) → (small ≡ true → same ≡ true → ⊥) → cond (small && same) (Some value) None ≡ None
missed true true value never = absurd (never refl refl)
missed true false value never = refl
missed false same value never = refl

-- A word that spells a number is its decimal, and the number is at most the bound.
pub number_spelled : (most : ℕ) (word : List ℕ) (n : ℕ) → number_up_to most word ≡ Some n → (n ≤ most) × (word ≡ decimal n)
number_spelled most word n e =
    let parts = found (nat_le (digits_value 10 word) most) (spells (digits_value 10 word) word) (digits_value 10 word) n e in
    let small : digits_value 10 word ≤ most = grind (arith, nat_tests, parts.0) in (
      omega (arith, small, parts.2),
      word_is (decimal (digits_value 10 word)) word parts.1 ∙ ap decimal parts.2,
    )

-- A number's decimal spells the number.
pub number_of_decimal : (most n : ℕ) → most < 2 ^ 64 → n ≤ most → number_up_to most (decimal n) ≡ Some n
number_of_decimal most n bound small =
    let value : digits_value 10 (decimal n) ≡ n = value_of_decimal n (omega arith) in
    let fits : nat_le n most ≡ true = grind (arith, nat_tests) in
    rw (value, fits, is_word_itself (decimal n)) refl

-- No other word spells a number.
pub no_number : (most : ℕ) (word : List ℕ) → ((n : ℕ) → n ≤ most → word ≡ decimal n → ⊥) → number_up_to most word ≡ None
no_number most word never =
    missed (nat_le (digits_value 10 word) most) (spells (digits_value 10 word) word) (digits_value 10 word)
    (λ small same. never (digits_value 10 word) (grind (arith, nat_tests, small)) (word_is (decimal (digits_value 10 word)) word same))

pub number_is_some : (most : ℕ) (word : List ℕ) → most < 2 ^ 64 → AllDigits 10 word → 0 < length word → (get_or word 0 0 ≡ 48 → length word ≡ 1) → digits_value 10 word ≤ most → number_up_to most word ≡ Some (digits_value 10 word)
number_is_some most word bound digits some plain small =
    let spelled : decimal (digits_value 10 word) ≡ word = decimal-digits_value own word digits some plain (omega arith) in
    subst (λ (w : List ℕ). number_up_to most w ≡ Some (digits_value 10 word)) spelled (number_of_decimal most (digits_value 10 word) bound small)

pub empty_is_none : (most : ℕ) (word : List ℕ) → most < 2 ^ 64 → length word ≡ 0 → number_up_to most word ≡ None
empty_is_none most word bound none = no_number most word (λ n small e. omega (arith, decimal_nonempty n (omega arith), ap length e))

begins_with_zero : (most : ℕ) (word : List ℕ) (n : ℕ) → most < 2 ^ 64 → get_or word 0 0 ≡ 48 → length word ≢ 1 → n ≤ most → word ≡ decimal n → ⊥
begins_with_zero most word zero bound first long small e = long (ap length (e ∙ decimal_digit 0 (omega arith)))
begins_with_zero most word (suc n) bound first long small e =
    let high : 48 < get_or (decimal (suc n)) 0 0 = first_decimal (suc n) (omega arith) (omega arith) in
    let same : get_or word 0 0 ≡ get_or (decimal (suc n)) 0 0 = ap (λ (w : List ℕ). get_or w 0 0) e in omega (arith, high, same, first)

pub zero_is_plain : (most : ℕ) (word : List ℕ) → most < 2 ^ 64 → get_or word 0 0 ≡ 48 → length word ≢ 1 → number_up_to most word ≡ None
zero_is_plain most word bound first long = no_number most word (λ n small e. begins_with_zero most word n bound first long small e)

pub not_digit_is_none : (most : ℕ) (word : List ℕ) (i : ℕ) → most < 2 ^ 64 → i < length word → (IsInRange 48 57 (get_or word i 0) → ⊥) → number_up_to most word ≡ None
not_digit_is_none most word i bound at never =
    no_number most word (λ n small e.
    never (subst (λ (w : List ℕ). i < length w → IsInRange 48 57 (get_or w i 0)) (sym e) (digit_at (decimal n) i (digits_of_decimal n (omega arith))) at))

pub large_is_none : (most : ℕ) (word : List ℕ) (i : ℕ) → most < 2 ^ 64 → most < digits_value 10 (take i word) → number_up_to most word ≡ None
large_is_none most word i bound large =
    no_number most word (λ n small e.
    let value : digits_value 10 word ≡ n = ap (digits_value 10) e ∙ value_of_decimal n (omega arith) in
    omega (arith, digits_value-take-le 10 word i (omega arith), value, large))

-- A found number equals the bound iff the word spells the bound.
pub spells_found : (number : ℕ) (word : List ℕ) (found : ℕ) → number < 2 ^ 64 → number_up_to number word ≡ Some found → (found == number) ≡ spells number word
spells_found number word found bound e =
    let spelled = number_spelled number word found e in
    same_answer (found == number) (spells number word)
    (λ same. let equal : found ≡ number = eqb-true found number same in
    subst (λ (w : List ℕ). spells number w ≡ true) (sym (spelled.1 ∙ ap decimal equal)) (is_word_itself (decimal number)))
    (λ same. eq-eqb found number (decimal_injective found number (omega (arith, spelled.0)) bound (sym spelled.1 ∙ word_is (decimal number) word same)))

pub spells_none : (number : ℕ) (word : List ℕ) → number < 2 ^ 64 → number_up_to number word ≡ None → spells number word ≡ false
spells_none number word bound e =
    never_true (spells number word)
    (λ same. let there : number_up_to number word ≡ Some number =
    subst (λ (w : List ℕ). number_up_to number w ≡ Some number) (sym (word_is (decimal number) word same)) (number_of_decimal number number bound (omega arith)) in cc (e, there))
