-- Counts as they are reported.
use Rattle.std.specs.Prelude.{ℕ, ◌-◌, ◌^◌, min}

-- A number above the greatest of 64 bits is that greatest number.
abbrev pub capped : ℕ → ℕ
capped n = min n (2 ^ 64 - 1)
