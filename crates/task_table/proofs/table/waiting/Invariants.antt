use Rattle.std.proofs.Common.{◌≡◌, ◌++◌, map}
use Rattle.std.specs.Vec.Iter.{into_iter_items, into_iter_len}
use Rattle.task_table.specs.declared.slot.TaskSlot.TheVariants.{Waits}
use Rattle.task_table.proofs.table.waiting.Given as goal

abbrev pub invariant-tasks : goal.invariant-tasks
invariant-tasks g l = l.slots.items ++ map (λ task. Waits task) (into_iter_items l.rest) ≡ map (λ task. Waits task) l.fn.tasks.items

abbrev pub decreases-tasks : goal.decreases-tasks
decreases-tasks g l = into_iter_len l.rest
