-- Nested events.
use Rattle.std.specs.Prelude.{◌≡◌, ◌+◌, ℕ, zero, suc, List, [], ◌∷◌, Option, Some, None}
use Rattle.task_trace.specs.declared.event.Event.{Event}
use Rattle.task_trace.specs.declared.event.Event.TheVariants.{Begin, End}

-- The number of tasks that run on a hart after these events, if so many ran before. `None` if a task ends while none runs.
abbrev pub running_after : ℕ → List Event → Option ℕ
running_after running [] = Some running
running_after running (Begin site nanos ∷ events) = running_after (running + 1) events
running_after zero (End nanos ∷ events) = None
running_after (suc others) (End nanos ∷ events) = running_after others events

-- The events of a hart are nested: each end has its begin, and each begin its end.
abbrev pub IsNested : List Event → Type 0
IsNested events = running_after 0 events ≡ Some 0
