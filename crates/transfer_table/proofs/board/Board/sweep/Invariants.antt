use Rattle.std.proofs.Common.{◌≡◌}
use Rattle.transfer_table.proofs.Sweeps.{IsSweptTo}
use Rattle.transfer_table.proofs.board.Board.sweep.Given as goal

-- The rows below i are done.
abbrev pub invariant-loop-i : goal.invariant-loop-i
invariant-loop-i l = (l.self.plan ≡ l.fn.self.plan) × IsSweptTo l.fn.self.plan l.site l.fn.self.state l.self.state l.i
