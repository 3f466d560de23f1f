use Rattle.std.proofs.Common.{ℕ, ◌<◌}
use Rattle.touch_bounds.specs.Pieces.{tables_of, AreClear}
use Rattle.touch_bounds.proofs.apart.are_all_clear.Given as goal

abbrev pub invariant-loop-number : goal.invariant-loop-number
invariant-loop-number l = (k : ℕ) → k < l.number → AreClear k (tables_of l.pieces)
