use Rattle.std.proofs.Common.{◌≡◌, ◌++◌, ◌-◌, take, replicate, pos}
use Rattle.tally_cells.proofs.cut.first_cells.Given as goal

-- The first cells so far, and then zeros.
abbrev pub invariant-loop-cell : goal.invariant-loop-cell
invariant-loop-cell l = l.first ≡ take l.cell l.store ++ replicate (l.cells - l.cell) (pos 0)
