use Rattle.transfer_table.proofs.Counts.{AreCounted}
use Rattle.transfer_table.proofs.board.count_children.Given as goal

-- The parents of the first i sites are counted.
abbrev pub invariant-loop-i : goal.invariant-loop-i
invariant-loop-i l = AreCounted l.plan.parents l.counts.items l.i
