-- The values of the array language: signed numbers of 64 bits, which wrap.
use Rattle.std.specs.Prelude.{zero, suc, Bool, true, false, not, ℤ, pos, negsuc, neg_ℤ, ◌+ℤ◌, ◌-ℤ◌, ◌*ℤ◌, int_lt, int_le, int_rem, if◌then◌else◌}
use Rattle.std.specs.Int.{int_wrap, int_wrapping_div, w64}
use Rattle.array_tree.specs.declared.tree.Op.{Op}
use Rattle.array_tree.specs.declared.tree.Op.TheVariants.{Add, Sub, Mul, Div, Rem, Less, Greater, LessEq, GreaterEq, Equal, NotEqual}

-- A condition holds if it isn't 0.
abbrev pub holds : ℤ → Bool
holds (pos zero) = false
holds (pos (suc n)) = true
holds (negsuc n) = true

-- The value of a comparison: 1 or 0.
abbrev pub one_if : Bool → ℤ
one_if b = if b then pos 1 else pos 0

-- Sum, difference, product and minus sign wrap.
abbrev pub wrapping_sum : ℤ → ℤ → ℤ
wrapping_sum a b = int_wrap w64 (a +ℤ b)

-- A difference wraps to 64 bits.
abbrev pub wrapping_difference : ℤ → ℤ → ℤ
wrapping_difference a b = int_wrap w64 (a -ℤ b)

-- A product wraps to 64 bits.
abbrev pub wrapping_product : ℤ → ℤ → ℤ
wrapping_product a b = int_wrap w64 (a *ℤ b)

-- A negation wraps to 64 bits.
abbrev pub wrapping_minus : ℤ → ℤ
wrapping_minus a = int_wrap w64 (neg_ℤ a)

-- The quotient is cut towards zero. It is 0 for a divisor of 0, and the least number divided by -1 is itself.
abbrev pub quotient : ℤ → ℤ → ℤ
quotient a b = if holds b then int_wrapping_div w64 a b else pos 0

-- The remainder has the sign of the left side. It is 0 for a divisor of 0.
abbrev pub remainder : ℤ → ℤ → ℤ
remainder a b = if holds b then int_rem a b else pos 0

-- The value of an operator.
abbrev pub applied : Op → ℤ → ℤ → ℤ
applied Add a b = wrapping_sum a b
applied Sub a b = wrapping_difference a b
applied Mul a b = wrapping_product a b
applied Div a b = quotient a b
applied Rem a b = remainder a b
applied Less a b = one_if (int_lt a b)
applied Greater a b = one_if (int_lt b a)
applied LessEq a b = one_if (int_le a b)
applied GreaterEq a b = one_if (int_le b a)
applied Equal a b = one_if (not (holds (a -ℤ b)))
applied NotEqual a b = one_if (holds (a -ℤ b))
