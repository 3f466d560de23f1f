use Rattle.std.proofs.Common.{◌≡◌, ◌+◌, drop}
use Rattle.transfer_table.specs.Table.{least_left}
use Rattle.transfer_table.proofs.board.Board.child_left.Given as goal

-- No child below i is left.
abbrev pub invariant-loop-i : goal.invariant-loop-i
invariant-loop-i l = least_left l.self.plan.parents l.self.state.rows l.site 1 ≡ least_left (drop l.i l.self.plan.parents) (drop l.i l.self.state.rows) l.site (l.i + 1)
