use Rattle.std.proofs.Common.{sym, arith, ap, ◌∙◌, ◌+◌, ◌*◌, ◌≡◌, ℕ, List, take, get_or, Some, subst, rules}
use Rattle.std.proofs.lemmas.Bool.Decides.{nat_tests}
use Rattle.std.proofs.lemmas.Int.Digits.{digits_value_more, digits_more}
use Rattle.std.proofs.lemmas.List.{take_all}
use Rattle.std.proofs.lemmas.Str.{digit_value_digit}
use Rattle.std.specs.Char.{digit_value}
use Rattle.std.specs.Str.Parse.{digits_value, AllDigits}
use Rattle.journal_text.proofs.Numbers.{empty_is_none, zero_is_plain, not_digit_is_none, large_is_none, number_is_some}
use Rattle.journal_text.proofs.number.number_up_to.Goals as goal

pub returns-then-is_empty : goal.returns-then-is_empty
returns-then-is_empty c = sym (empty_is_none c.args.most c.args.word.now (omega arith) (grind (arith, nat_tests)))

pub returns-then-word-ne1 : goal.returns-then-word-ne1
returns-then-word-ne1 c = sym (zero_is_plain c.args.most c.args.word.now (omega arith) c.if-word-eq48.true c.if-word-ne1.true)

pub returns-then-not-is_ascii_digit : goal.returns-then-not-is_ascii_digit
returns-then-not-is_ascii_digit c = sym (not_digit_is_none c.args.most c.args.word.now c.loop-byte.byte-index (omega arith) (omega arith) (λ inside. grind (arith, inside, c.if-not-is_ascii_digit.ensures.cases)))

pub returns-then-number-from : goal.returns-then-number-from
returns-then-number-from c =
    let at = c.loop-byte.byte-index in
    let byte = get_or c.args.word.now at 0 in
    let more : digits_value 10 (take (at + 1) c.args.word.now) ≡ digits_value 10 (take at c.args.word.now) * 10 + digit_value byte = digits_value_more 10 c.args.word.now at (omega arith) in
    let digit : digit_value byte + 48 ≡ byte = digit_value_digit byte (search rules) in
    sym (large_is_none c.args.most c.args.word.now (at + 1) (omega arith) (omega (arith, more, digit, c.loop-byte.invariant.value)))

pub returns : goal.returns
returns c =
    let whole : take c.loop-byte.byte-index c.args.word.now ≡ c.args.word.now = take_all c.loop-byte.byte-index c.args.word.now (omega arith) in
    let value : c.loop-byte.number ≡ digits_value 10 c.args.word.now = c.loop-byte.invariant.value ∙ ap (digits_value 10) whole in
    ap Some value
    ∙ sym (
    number_is_some c.args.most c.args.word.now (omega arith)
    (subst (λ (w : List ℕ). AllDigits 10 w) whole c.loop-byte.invariant.digits)
    (grind (arith, nat_tests))
    (λ zero. grind (arith, zero))
    (omega (arith, value, c.loop-byte.invariant.small))
    )

pub loop-byte-preserved : goal.loop-byte-preserved
loop-byte-preserved c =
    let at = c.loop-byte.byte-index in
    let byte = get_or c.args.word.now at 0 in
    let more : digits_value 10 (take (at + 1) c.args.word.now) ≡ digits_value 10 (take at c.args.word.now) * 10 + digit_value byte = digits_value_more 10 c.args.word.now at (omega arith) in
    let digit : digit_value byte + 48 ≡ byte = digit_value_digit byte (search rules) in
    record {
      value = omega (arith, more, digit, c.loop-byte.invariant.value);
      digits = digits_more 10 c.args.word.now at (omega arith) c.loop-byte.invariant.digits (search rules);
      small = omega arith;
    }
