use Rattle.std.proofs.Common.{◌≡◌, ◌+◌, ◌++◌, replicate}
use Rattle.std.specs.VecDeque.{deque_len, deque_capacity}
use Rattle.sched_api.proofs.wishes.push_times.Given as goal

abbrev pub invariant-loop-done : goal.invariant-loop-done
invariant-loop-done l = record {
  items : l.sites.items ≡ l.initial.sites.items ++ replicate l.done l.site;
  len : deque_len l.sites ≡ deque_len l.initial.sites + l.done;
  capacity : deque_capacity l.sites ≡ deque_capacity l.initial.sites;
}
