use Rattle.std.proofs.Common.{◌≡◌, ◌+◌, drop}
use Rattle.transfer_table.specs.Journal.{unfinished}
use Rattle.transfer_table.proofs.board.Board.unfinished.Given as goal

-- The rows below i are gone.
abbrev pub invariant-loop-i : goal.invariant-loop-i
invariant-loop-i l = unfinished l.self-inside.rows.items 1 ≡ unfinished (drop l.i l.self-inside.rows.items) (l.i + 1)
