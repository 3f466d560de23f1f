use Rattle.std.proofs.Common.{◌≡◌, fold, drop}
use Rattle.array_tokens.specs.Lexemes.{number_of_digits}
use Rattle.array_tokens.proofs.Cutting.{digit_step}
use Rattle.array_tokens.proofs.lexer.number.Given as goal

-- Continuing from the value so far gives the value of all digits.
abbrev pub invariant-loop-digit : goal.invariant-loop-digit
invariant-loop-digit l = fold digit_step l.value (drop l.digit-index l.digits) ≡ number_of_digits l.digits
