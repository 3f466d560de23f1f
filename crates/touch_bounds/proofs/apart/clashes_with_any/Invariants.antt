use Rattle.std.proofs.Common.{drop}
use Rattle.touch_bounds.specs.Pieces.{tables_of, IsClearOf}
use Rattle.touch_bounds.proofs.apart.clashes_with_any.Given as goal

-- All are clear if the rest is.
abbrev pub invariant-loop-other : goal.invariant-loop-other
invariant-loop-other l =
    (IsClearOf l.number l.touch (tables_of (drop l.other-index l.others)) → IsClearOf l.number l.touch (tables_of l.others))
    × (IsClearOf l.number l.touch (tables_of l.others) → IsClearOf l.number l.touch (tables_of (drop l.other-index l.others)))
