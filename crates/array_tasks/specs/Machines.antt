-- Machines, from construct to construct.
use Rattle.std.specs.Prelude.{◌≡◌, ◌<◌, Option, Some, None}
use Rattle.step_eval.specs.declared.stage.Stage.TheVariants.{Awaiting}
use Rattle.step_eval.specs.Machines.{Progress, next_nest, left_of, IsFinished}
use Rattle.step_eval.specs.Nests.{NestedParts, nested_of}

-- The machine has come to this construct, whose writes it awaits; or, without a construct, to the end of its job.
abbrev pub HasCome : Progress → Option NestedParts → Progress → Type 0
HasCome before (Some nested) after =
    (after.job ≡ before.job) × (after.stage ≡ Awaiting)
    × (next_nest after ≡ Some (nested_of nested))
    × (left_of after.stage after.rest < left_of before.stage before.rest)
HasCome before None after = (after.job ≡ before.job) × IsFinished after
