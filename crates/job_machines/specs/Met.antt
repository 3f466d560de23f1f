-- The result of a machine's step, as its hart sees it.
use Rattle.contexts.specs.declared.machine.Step.{Step}
use Rattle.contexts.specs.declared.machine.Step.TheVariants as step
use Rattle.step_eval.specs.declared.found.Found as machines
use Rattle.step_eval.specs.declared.found.Found.TheVariants as machine
use Rattle.step_eval.specs.Nests.{NestedParts}
use Rattle.hart_work.specs.declared.found.Found as harts
use Rattle.hart_work.specs.declared.found.Found.TheVariants as hart

-- The same result, with the hart's type of events.
abbrev pub as_seen : Step machines.Found → Step (harts.Found NestedParts)
as_seen step.More = step.More
as_seen (step.Nest (machine.Nest nested)) = step.Nest (hart.Nest nested)
as_seen (step.Nest (machine.Pass first end)) = step.Nest (hart.Pass first end)
as_seen step.Finished = step.Finished
as_seen step.NoMemory = step.NoMemory
