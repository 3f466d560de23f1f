use Rattle.std.proofs.Common.{◌≡◌, ◌≤◌, ◌+◌, ℕ, length, All, vec_len, vec_capacity}
use Rattle.std.specs.Vec.Iter.{into_iter_items, into_iter_len}
use Rattle.tasks.proofs.Rest.{Ran}
use Rattle.task_sites.proofs.levels.in_order_on.Given as goal

abbrev pub invariant-tasks : goal.invariant-tasks
invariant-tasks g l = record {
  ran : Ran g.T.TaskKind.gives l.fn.tasks.items l.outputs.items (into_iter_items l.rest);
  shallow : All (λ task. g.T.TaskKind.depth task ≤ g.L.Levels.count) (into_iter_items l.rest);
  ready : All g.T.TaskKind.ready (into_iter_items l.rest);
  count : into_iter_len l.rest ≡ length (into_iter_items l.rest);
  room : vec_len l.outputs + into_iter_len l.rest ≡ vec_capacity l.outputs;
}

abbrev pub decreases-tasks : goal.decreases-tasks
decreases-tasks g l = into_iter_len l.rest
