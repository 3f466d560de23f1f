-- What the tasks of `task.rt` output, and how they fail.
use Rattle.std.specs.Prelude.{◌≡◌, ◌+◌, ℕ, Bool, Option, None}
use Rattle.std.specs.List.{position}
use Rattle.task_loops.specs.declared.fold.Indices.{Ghosts}
use Rattle.task_find.specs.Passing.{NonePass}
use Rattle.task_find.specs.Failing.{FailsRange}
use Rattle.task_find.specs.declared.find.Find.{Find}
use Rattle.task_find.specs.declared.find.Found.{Found}
use Rattle.task_find.specs.declared.task.FindTask.{FindTask}
use Rattle.task_find.specs.declared.task.FindTask.TheVariants.{Whole, Range}

module _ {A P : Type 0} {indices : Ghosts (Find A P)} (passes : P → A → Bool) where
  -- The output of a whole slice is the index of the first element that passes. A range outputs that none passes.
  abbrev pub gives_of : FindTask (Find A P) indices → Option ℕ → Type 0
  gives_of (Whole find cuts shortest) found = found ≡ position (passes find.predicate.now) find.elements.now
  gives_of (Range part) found = (found ≡ None) × NonePass (passes part.fold.predicate.now) part.fold.elements.now part.low part.high

  -- A whole slice has no error of its own. A range fails by the index of its first element that passes.
  abbrev pub fails_of : FindTask (Find A P) indices → Found → Type 0
  fails_of (Whole find cuts shortest) error = ⊥
  fails_of (Range part) error = FailsRange (passes part.fold.predicate.now) part.fold.elements.now part.low part.high error

-- The number of levels of tasks that may be inside a task.
abbrev pub depth_of : {A P : Type 0} {indices : Ghosts (Find A P)} → FindTask (Find A P) indices → ℕ
depth_of (Whole find cuts shortest) = cuts
depth_of (Range part) = part.cuts + 0
