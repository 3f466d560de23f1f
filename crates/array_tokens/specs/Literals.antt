-- The numbers that texts spell.
use Rattle.std.specs.Prelude.{ℕ, ◌-◌, ◌^◌}

-- The greatest number that a text spells, which is the greatest value of 64 bits with a sign.
abbrev pub greatest_literal : ℕ
greatest_literal = 2 ^ 63 - 1
