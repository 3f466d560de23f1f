use Rattle.std.proofs.Common.{◌≡◌}
use Rattle.task_demo.proofs.pairs.join_pairs.Given as goal

abbrev pub invariant-calls : goal.invariant-calls
invariant-calls g l = g.H.Harts.levels l.harts ≡ g.H.Harts.levels l.fn.harts
