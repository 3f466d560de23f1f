use Rattle.std.proofs.Common.{◌≡◌, length}
use Rattle.task_trace.proofs.trace.Trace.new.Given as goal

abbrev pub invariant-harts : goal.invariant-harts
invariant-harts g l = length l.rows.items ≡ l.hart
