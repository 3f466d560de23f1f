-- Truth as a number, for counts.
use Rattle.std.specs.Prelude.{ℕ, Bool, true, false}

-- 1 if the value is true; else 0.
abbrev pub one_if : Bool → ℕ
one_if true = 1
one_if false = 0
