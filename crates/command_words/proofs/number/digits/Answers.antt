use Rattle.std.proofs.Common.{◌≡◌, ◌+◌, ◌*◌, ◌<◌, ℕ, List, take, get_or, ap, subst, ◌∙◌, arith, rules}
use Rattle.std.specs.Char.{digit_value}
use Rattle.std.specs.Str.Parse.{digits_value, AllDigits}
use Rattle.std.proofs.lemmas.Int.Digits.{digits_value_more, digits_more}
use Rattle.std.proofs.lemmas.List.{take_all}
use Rattle.std.proofs.lemmas.Str.{digit_value_digit}
use Rattle.command_words.proofs.Values.{digits_from, no_digits, ten_more}
use Rattle.command_words.proofs.number.digits.Goals as goal

pub returns-then-not-is_ascii_digit : goal.returns-then-not-is_ascii_digit
returns-then-not-is_ascii_digit c = no_digits c.args.bytes.now c.loop-byte.byte-index (omega arith) (λ inside. grind (arith, inside, c.if-not-is_ascii_digit.ensures.cases))

pub loop-byte-preserved : goal.loop-byte-preserved
loop-byte-preserved c =
    let at = c.loop-byte.byte-index in
    let byte = get_or c.args.bytes.now at 0 in
    let more : digits_value 10 (take (at + 1) c.args.bytes.now) ≡ digits_value 10 (take at c.args.bytes.now) * 10 + digit_value byte = digits_value_more 10 c.args.bytes.now at (omega arith) in
    let digit : digit_value byte + 48 ≡ byte = digit_value_digit byte (search rules) in
    let low : digit_value byte < 10 = search rules in
    record {
      value = omega (arith, more, digit, c.loop-byte.invariant.value);
      digits = digits_more 10 c.args.bytes.now at (omega arith) c.loop-byte.invariant.digits low;
      small = omega (arith, ten_more at, digit, low, c.loop-byte.invariant.small);
    }

pub returns : goal.returns
returns c =
    let whole : take c.loop-byte.byte-index c.args.bytes.now ≡ c.args.bytes.now = take_all c.loop-byte.byte-index c.args.bytes.now (omega arith) in (
      digits_from c.args.bytes.now (subst (λ (b : List ℕ). AllDigits 10 b) whole c.loop-byte.invariant.digits),
      c.loop-byte.invariant.value ∙ ap (digits_value 10) whole,
    )
