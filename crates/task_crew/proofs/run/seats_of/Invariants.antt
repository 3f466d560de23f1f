use Rattle.std.proofs.Common.{◌≡◌, ◌≤◌, ◌+◌, All, vec_len, vec_capacity}
use Rattle.task_crew.specs.Runs.{IsSeatOf}
use Rattle.task_crew.proofs.run.seats_of.Given as goal

abbrev pub invariant-guests : goal.invariant-guests
invariant-guests g l = record {
  seats : All (IsSeatOf g.B.Naming.table g.B.Naming.size) l.seats.items;
  count : vec_len l.seats + vec_len l.guests ≡ vec_len l.fn.guests + 1;
  room : vec_len l.seats + vec_len l.guests ≤ vec_capacity l.seats;
}

abbrev pub decreases-guests : goal.decreases-guests
decreases-guests g l = vec_len l.guests
