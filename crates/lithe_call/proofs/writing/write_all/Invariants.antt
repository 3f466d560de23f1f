use Rattle.std.proofs.Common.{length, ◌-◌, ◌≤◌, take}
use Rattle.outside_io.specs.Outside.{Appends}
use Rattle.lithe_call.proofs.writing.write_all.Given as goal

abbrev pub invariant-loop-at : goal.invariant-loop-at
invariant-loop-at g l = record {
  count : g.B.Sink.faults l.fn.out ≤ g.B.Sink.faults l.out;
  inside : l.at ≤ length l.bytes;
  taken : Appends (g.B.Sink.taken l.fn.out) (take l.at l.bytes) (g.B.Sink.taken l.out);
}

abbrev pub decreases-loop-at : goal.decreases-loop-at
decreases-loop-at g l = length l.bytes - l.at
