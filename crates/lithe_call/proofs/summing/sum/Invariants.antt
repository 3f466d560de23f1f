use Rattle.std.proofs.Common.{◌≡◌}
use Rattle.lithe_call.specs.Summary.{sum_of}
use Rattle.lithe_call.proofs.Sums.{with_rest}
use Rattle.lithe_call.proofs.summing.sum.Given as goal

abbrev pub invariant-loop-cell : goal.invariant-loop-cell
invariant-loop-cell l = with_rest l.sum l.cell l.store ≡ sum_of l.store
