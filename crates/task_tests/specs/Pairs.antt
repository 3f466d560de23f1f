-- What the tasks of `pairs.rt` output, and how they fail.
use Rattle.std.specs.Prelude.{◌≡◌, ◌+◌, ◌⊎◌, ℕ, length}
use Rattle.task_tests.specs.declared.pairs.Half.{Half}
use Rattle.task_tests.specs.declared.pairs.Size.{Size}
use Rattle.task_tests.specs.declared.pairs.Both.{Both}
use Rattle.task_tests.specs.declared.pairs.Both.TheVariants.{Leads, Halves, Measures}
use Rattle.task_tests.specs.declared.pairs.Done.{Done}
use Rattle.task_tests.specs.declared.pairs.Done.TheVariants.{Pair, Number, Bytes}
use Rattle.task_tests.specs.declared.pairs.BothError.{BothError}
use Rattle.task_tests.specs.declared.pairs.BothError.TheVariants.{Odd, Empty}

-- The half of an even number.
abbrev pub GivesHalf : Half → ℕ → Type 0
GivesHalf half output = half.number ≡ output + output

-- The length of a text.
abbrev pub GivesSize : Size → ℕ → Type 0
GivesSize size output = output ≡ length size.text.now

-- The outputs: a half, a length, or both.
abbrev pub gives_of : Both → Done → Type 0
gives_of (Leads half size) done =
    (number : ℕ) × (bytes : ℕ) × (done ≡ Pair number bytes) × GivesHalf half number × GivesSize size bytes
gives_of (Halves half) done = (number : ℕ) × (done ≡ Number number) × GivesHalf half number
gives_of (Measures size) done = (bytes : ℕ) × (done ≡ Bytes bytes) × GivesSize size bytes

-- The errors: a number is odd, or a text is empty and, of both, the number has a half.
abbrev pub fails_of : Both → BothError → Type 0
fails_of (Leads half size) error =
    (error ≡ Odd) ⊎ ((done : Done) × gives_of (Halves half) done × (error ≡ Empty))
fails_of (Halves half) error = error ≡ Odd
fails_of (Measures size) error = error ≡ Empty

-- The number of levels of tasks inside a task.
abbrev pub depth_of : Both → ℕ
depth_of (Leads half size) = 1
depth_of (Halves half) = 0
depth_of (Measures size) = 0
