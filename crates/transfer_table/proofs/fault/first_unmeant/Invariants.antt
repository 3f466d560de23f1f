use Rattle.std.proofs.Common.{◌≡◌, ◌+◌, drop}
use Rattle.transfer_table.specs.Table.{row}
use Rattle.transfer_table.specs.Journal.{unmeant}
use Rattle.std.specs.Option.{is_some}
use Rattle.transfer_table.proofs.fault.first_unmeant.Given as goal

-- The sites up to i are as they are meant.
abbrev pub invariant-loop-i : goal.invariant-loop-i
invariant-loop-i l = unmeant (λ s. is_some (row l.board.state s).home) l.meant 1 ≡ unmeant (λ s. is_some (row l.board.state s).home) (drop l.i l.meant) (l.i + 1)
