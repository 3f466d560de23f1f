-- How two tasks may fail.
use Rattle.std.specs.Prelude.{◌⊎◌}

-- The first of two tasks fails with this error, or the first has an output and the second fails with this error.
abbrev pub FailsOfTwo : {T O E : Type 0} → (T → O → Type 0) → (T → E → Type 0) → T → T → E → Type 0
FailsOfTwo {T} {O} gives fails first second error =
    fails first error ⊎ ((output : O) × gives first output × fails second error)
