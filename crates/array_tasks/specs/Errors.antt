-- Why a program isn't run.
use Rattle.std.specs.Prelude.{◌≡◌, ◌<◌, ◌⊎◌, ℕ}
use Rattle.array_tasks.specs.declared.error.ProgramError.{ProgramError}
use Rattle.array_tasks.specs.declared.error.ProgramError.TheVariants as program
use Rattle.array_tasks.specs.declared.error.TextError.{TextError}
use Rattle.array_tasks.specs.declared.error.TextError.TheVariants as text

-- The number of harts is out of range.
abbrev pub IsBadCount : ℕ → ℕ → Type 0
IsBadCount harts n = (n ≡ harts) × ((harts ≡ 0) ⊎ (64 < harts))

-- The cause of the error of a run on so many harts. An allocation failure has no cause.
abbrev pub IsNotRun : ℕ → ProgramError → Type 0
IsNotRun harts (program.HartCount n) = IsBadCount harts n
IsNotRun harts program.OutOfMemory = Unit {0}

-- The error of a run, as an error for a text.
abbrev pub is_as_run : ProgramError → TextError → Type 0
is_as_run (program.HartCount n) error = error ≡ text.HartCount n
is_as_run program.OutOfMemory error = error ≡ text.OutOfMemory
