use Rattle.std.proofs.Common.{◌≡◌}
use Rattle.task_sites.proofs.collect.wait_for.Given as goal

abbrev pub invariant-tries : goal.invariant-tries
invariant-tries g l = record {
  of : l.seat.table_id ≡ l.table.table.shared.table_id;
  knows : l.seat.me.0.tasks ≡ l.table.table.shared.key;
}
