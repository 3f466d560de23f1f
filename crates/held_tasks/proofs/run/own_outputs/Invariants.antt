use Rattle.std.proofs.Common.{◌≡◌, [], length}
use Rattle.std.specs.Vec.Iter.{into_iter_items, into_iter_len}
use Rattle.held_tasks.proofs.Held.{Left}
use Rattle.held_tasks.proofs.run.own_outputs.Given as goal

abbrev pub invariant-outputs : goal.invariant-outputs
invariant-outputs g l = record {
  left : Left (λ task output. g.V.TaskKind.gives (g.V.Holds.held task) output) g.T.TaskKind.gives l.fn.outputs.items (into_iter_items l.rest) l.own.items;
  none : l.fn.outputs.items ≡ [] → into_iter_items l.rest ≡ [];
  count : into_iter_len l.rest ≡ length (into_iter_items l.rest);
}

abbrev pub decreases-outputs : goal.decreases-outputs
decreases-outputs g l = into_iter_len l.rest
