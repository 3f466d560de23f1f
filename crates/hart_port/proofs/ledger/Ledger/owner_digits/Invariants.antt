-- The digits are those of the owners from the hart on.
use Rattle.std.proofs.Common.{◌≡◌, ◌≤◌, drop, take, length}
use Rattle.hart_port.specs.Words.{owner_digits}
use Rattle.hart_port.proofs.ledger.Ledger.owner_digits.Given as goal

abbrev pub invariant-loop-hart : goal.invariant-loop-hart
invariant-loop-hart l = record { same : l.digits ≡ owner_digits (drop l.hart (take 4 l.self-inside.board.state.owners)); most : l.hart ≤ length (take 4 l.self-inside.board.state.owners) }
