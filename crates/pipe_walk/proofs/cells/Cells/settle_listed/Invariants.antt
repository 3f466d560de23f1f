use Rattle.pipe_walk.proofs.CellLemmas.{IsJoining}
use Rattle.pipe_walk.proofs.cells.Cells.settle_listed.Given as goal

-- The listed cells below i have joined their past.
abbrev pub invariant-loop-i : goal.invariant-loop-i
invariant-loop-i l = IsJoining l.fn.self l.self l.i
