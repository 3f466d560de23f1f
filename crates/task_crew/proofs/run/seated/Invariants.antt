use Rattle.std.proofs.Common.{◌≡◌, ◌+◌, All, vec_len}
use Rattle.task_crew.specs.Runs.{IsSeatOf}
use Rattle.task_crew.proofs.run.seated.Given as goal

abbrev pub invariant-seats : goal.invariant-seats
invariant-seats g l = record {
  seats : All (IsSeatOf g.B.Naming.table g.B.Naming.size) l.seats.items;
  count : vec_len l.harts + vec_len l.seats ≡ vec_len l.fn.seats;
}

abbrev pub decreases-seats : goal.decreases-seats
decreases-seats g l = vec_len l.seats
