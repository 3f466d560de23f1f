use Rattle.std.proofs.Common.{◌≡◌, ◌++◌, All, map}
use Rattle.std.specs.Vec.Iter.{into_iter_items, into_iter_len}
use Rattle.held_tasks.proofs.run.hold_all.Given as goal

abbrev pub invariant-tasks : goal.invariant-tasks
invariant-tasks g l = record {
  held : l.held.items ++ map g.V.Holds.held (into_iter_items l.rest) ≡ map g.V.Holds.held l.fn.tasks.items;
  ready : All g.V.TaskKind.ready l.held.items;
  left : All g.T.TaskKind.ready (into_iter_items l.rest);
}

abbrev pub decreases-tasks : goal.decreases-tasks
decreases-tasks g l = into_iter_len l.rest
