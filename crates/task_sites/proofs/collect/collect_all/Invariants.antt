use Rattle.std.proofs.Common.{◌≡◌, ◌≤◌, ◌-◌, take, vec_len, vec_capacity}
use Rattle.std.specs.List.{AllZip}
use Rattle.task_sites.proofs.collect.collect_all.Given as goal

abbrev pub invariant-places : goal.invariant-places
invariant-places g l = record {
  of : l.seat.table_id ≡ l.table.table.shared.table_id;
  knows : l.seat.me.0.tasks ≡ l.table.table.shared.key;
  within : l.place ≤ l.count;
  len : vec_len l.outputs ≤ l.place;
  room : vec_capacity l.outputs ≡ vec_capacity l.fn.outputs;
  came : AllZip g.T.TaskKind.gives (take l.place l.table.table.shared.key.value.items) l.outputs.items;
}

abbrev pub decreases-places : goal.decreases-places
decreases-places g l = l.count - l.place
