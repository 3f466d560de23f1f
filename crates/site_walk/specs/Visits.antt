-- What a walk notes of the visits of steps.
use Rattle.std.specs.List.{fold}
use Rattle.array_meaning.specs.Stores.{Arrays}
use Rattle.array_meaning.specs.Steps.{Steps}
use Rattle.array_meaning.specs.Touch.{Visit, walk}

-- The notes after the walk through steps, by what is noted of a visit.
abbrev pub after : {Notes : Type 0} → (Notes → Visit → Notes) → Arrays → Steps → Notes → Notes
after noted arrays steps notes = fold noted notes (walk arrays steps)
