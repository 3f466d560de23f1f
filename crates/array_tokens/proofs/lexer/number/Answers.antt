use Rattle.std.proofs.Common.{◌∙◌, sym, ap, arith, Some, None, if◌then◌else◌}
use Rattle.array_tokens.specs.Lexemes.{number_of_digits}
use Rattle.array_tokens.proofs.Cutting.{too_large_from}
use Rattle.array_tokens.proofs.lexer.number.Goals as goal

pub returns-in_err-checked_mul : goal.returns-in_err-checked_mul
returns-in_err-checked_mul c =
    c.from_residual.ensures ∙ sym (ap (λ b. if b then Some (number_of_digits c.args.digits.now) else None) (too_large_from c.args.digits.now c.loop-digit.digit-index c.loop-digit.value (omega arith) c.loop-digit.invariant (omega (arith, c.in_err-checked_mul.ensures))))

pub returns-in_err-value : goal.returns-in_err-value
returns-in_err-value c =
    c.from_residual-in_err-value.ensures ∙ sym (ap (λ b. if b then Some (number_of_digits c.args.digits.now) else None) (too_large_from c.args.digits.now c.loop-digit.digit-index c.loop-digit.value (omega arith) c.loop-digit.invariant (omega (arith, c.in_err-value.ensures))))
