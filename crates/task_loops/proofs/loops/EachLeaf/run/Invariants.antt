use Rattle.std.proofs.Common.{◌≤◌, ◌<◌, ℕ}
use Rattle.task_loops.proofs.loops.EachLeaf.run.Given as goal

abbrev pub invariant-indices : goal.invariant-indices
invariant-indices g l = (k : ℕ) → l.low ≤ k → k < l.index → g.B.Body.done l.self.body k
