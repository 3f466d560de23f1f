-- What a hart keeps of an event.
use Rattle.std.specs.Prelude.{◌≡◌, ◌++◌, ◌∷◌, ◌⊎◌, [], List, Option, Some, None}
use Rattle.task_trace.specs.declared.error.TraceError.{TraceError}
use Rattle.task_trace.specs.declared.error.TraceError.TheVariants.{OutOfMemory, Unpaired}
use Rattle.task_trace.specs.declared.event.Event.{Event}

-- One event more, or why it is missing: an allocation failed, or the event is one that can't be counted.
abbrev pub Keeps : Event → Type 0 → List Event → List Event → Option TraceError → Type 0
Keeps event uncounted old new fault =
    ((new ≡ old ++ event ∷ []) × (fault ≡ None))
    ⊎ ((new ≡ old) × ((fault ≡ Some OutOfMemory) ⊎ ((fault ≡ Some Unpaired) × uncounted)))
