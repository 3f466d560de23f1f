use Rattle.transfer_table.proofs.Ends.{AreRaised}
use Rattle.transfer_table.proofs.board.find_ends.Given as goal

-- The sites above i have been visited.
abbrev pub invariant-loop-i : goal.invariant-loop-i
invariant-loop-i l = AreRaised l.plan l.ends.items l.i
