use Rattle.std.proofs.Common.{◌<◌, All}
use Rattle.task_tests.proofs.stops.tasks_of.Given as goal

abbrev pub invariant-numbers : goal.invariant-numbers
invariant-numbers l = All (λ inner. inner.levels < l.task.levels) l.tasks.items
