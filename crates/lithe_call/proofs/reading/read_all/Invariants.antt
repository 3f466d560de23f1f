use Rattle.std.proofs.Common.{◌≤◌, ◌+◌, ◌-◌, vec_len}
use Rattle.outside_io.specs.Outside.{Gives}
use Rattle.lithe_call.proofs.reading.read_all.Given as goal

abbrev pub invariant-loop-bytes : goal.invariant-loop-bytes
invariant-loop-bytes g l = record {
  count : g.A.Source.faults l.fn.source ≤ g.A.Source.faults l.source;
  inside : vec_len l.bytes ≤ l.limit;
  given : Gives (g.A.Source.left l.fn.source) l.bytes.items (g.A.Source.left l.source);
}

abbrev pub decreases-loop-bytes : goal.decreases-loop-bytes
decreases-loop-bytes g l = l.limit + 1 - vec_len l.bytes
