-- Values that are numbers.
use Rattle.std.proofs.Common.{◌≡◌, ◌+◌, ◌*◌, ◌<◌, ◌^◌, ◌&&◌, ◌==◌, ℕ, Bool, true, false, cond, nat_le, List, [], ◌∷◌, length, get_or, Some, None, refl, arith}
use Rattle.std.specs.Int.{IsInRange}
use Rattle.std.specs.Str.{all_ascii_digits}
use Rattle.std.specs.Str.Parse.{digits_value, AllDigits}
use Rattle.std.proofs.lemmas.Bool.{eqb-true, and_parts}
use Rattle.std.proofs.lemmas.Grind.{pow_more}
use Rattle.std.proofs.lemmas.Str.Parse.{IsNumeralModel, numerals_by_value, tells_all_ascii_digits, digit_at}
use Rattle.clap.specs.Walk.{Text}
use Rattle.command_words.specs.Form.{number_in}
use Rattle.command_words.proofs.Complete.{IsPlain}

own : IsNumeralModel (λ ds. all_ascii_digits ds ≡ true) (digits_value 10)
own = numerals_by_value (λ ds. all_ascii_digits ds ≡ true) tells_all_ascii_digits

pub digits_from : (bytes : List ℕ) → AllDigits 10 bytes → all_ascii_digits bytes ≡ true
digits_from bytes are = own.from bytes are

never_true : (b : Bool) → (b ≡ true → ⊥) → b ≡ false
never_true true never = absurd (never refl)
never_true false never = refl

pub no_digits : (bytes : List ℕ) (i : ℕ) → i < length bytes → (IsInRange 48 57 (get_or bytes i 0) → ⊥) → all_ascii_digits bytes ≡ false
no_digits bytes i at never = never_true (all_ascii_digits bytes) (λ e. never (digit_at bytes i (own.to bytes e) at))

pub ten_more : (k : ℕ) → 10 ^ (k + 1) ≡ 10 ^ k * 10
ten_more k = pow_more 10 k

-- A number begins with a digit.
digit_first : (first : ℕ) (more : Text) → all_ascii_digits (first ∷ more) ≡ true → (first == 45) ≡ false
digit_first first more e = never_true (first == 45) (λ same. let is : first ≡ 45 = eqb-true first 45 same in let range = digit_at (first ∷ more) 0 (own.to (first ∷ more) e) (omega arith) in omega (arith, is, range.0))

pub digits_plain : (value : Text) → all_ascii_digits value ≡ true → IsPlain value
digits_plain [] e = (refl, refl)
digits_plain (first ∷ more) e = let other = digit_first first more e in (rw other refl, rw other refl)

some_if : (b : Bool) (n m : ℕ) → cond b (Some n) None ≡ Some m → b ≡ true
some_if true n m e = refl
some_if false n m e = cc e

pub number_digits : (least most : ℕ) (value : Text) (number : ℕ) → number_in least most value ≡ Some number → all_ascii_digits value ≡ true
number_digits least most value number e =
    let number = digits_value 10 value in
    let one = and_parts (nat_le 1 (length value) && nat_le (length value) 20 && all_ascii_digits value && nat_le least number) (nat_le number most) (some_if (nat_le 1 (length value) && nat_le (length value) 20 && all_ascii_digits value && nat_le least number && nat_le number most) number _ e) in
    let two = and_parts (nat_le 1 (length value) && nat_le (length value) 20 && all_ascii_digits value) (nat_le least number) one.0 in
    let three = and_parts (nat_le 1 (length value) && nat_le (length value) 20) (all_ascii_digits value) two.0 in three.1
