use Rattle.std.proofs.Common.{drop}
use Rattle.touch_bounds.specs.Pieces.{tables_of, AreClear}
use Rattle.touch_bounds.proofs.apart.are_clear.Given as goal

-- All are clear if the rest is.
abbrev pub invariant-loop-i : goal.invariant-loop-i
invariant-loop-i l =
    (AreClear l.number (tables_of (drop l.i l.pieces)) → AreClear l.number (tables_of l.pieces))
    × (AreClear l.number (tables_of l.pieces) → AreClear l.number (tables_of (drop l.i l.pieces)))
