-- The first error of tasks.
use Rattle.std.specs.Prelude.{◌⊎◌, List}
use Rattle.tasks.specs.Failures.{FirstFailure}

module _ {T O E : Type 0} (gives : T → O → Type 0) (fails : T → E → Type 0) (memory : E → Type 0) where
  -- The first of the tasks that has no output has this error: one of its own, or an allocation failed in it.
  abbrev pub FirstError : List T → E → Type 0
  FirstError tasks error = FirstFailure gives (λ task e. fails task e ⊎ memory e) tasks error
