-- How tasks that run in order may fail.
use Rattle.std.specs.Prelude.{◌≡◌, List, ◌∷◌, ◌++◌}
use Rattle.std.specs.List.{AllZip}

-- The first of the tasks that failed, failed with this error: each task before it has an output, and the task itself fails so.
abbrev pub FirstFailure : {T O E : Type 0} → (T → O → Type 0) → (T → E → Type 0) → List T → E → Type 0
FirstFailure {T} {O} gives fails tasks error =
    (before : List T) × (task : T) × (after : List T) × (outputs : List O)
    × (tasks ≡ before ++ task ∷ after) × AllZip gives before outputs × fails task error
