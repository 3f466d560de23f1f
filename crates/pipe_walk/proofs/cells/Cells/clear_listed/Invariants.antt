use Rattle.pipe_walk.proofs.CellLemmas.{IsClearing}
use Rattle.pipe_walk.proofs.cells.Cells.clear_listed.Given as goal

-- The listed cells below i are cleared.
abbrev pub invariant-loop-i : goal.invariant-loop-i
invariant-loop-i l = IsClearing l.fn.self l.self l.i
