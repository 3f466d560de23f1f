use Rattle.std.proofs.Common.{◌≡◌, drop}
use Rattle.transfer_table.specs.Table.{other_inside}
use Rattle.transfer_table.proofs.board.Board.hart_inside.Given as goal

-- No other hart below i is inside.
abbrev pub invariant-loop-i : goal.invariant-loop-i
invariant-loop-i l = other_inside l.self.state.owners l.hart l.site 0 ≡ other_inside (drop l.i l.self.state.owners) l.hart l.site l.i
