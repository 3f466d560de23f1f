use Rattle.std.proofs.Common.{◌≡◌, drop}
use Rattle.transfer_table.specs.Journal.{refused_from, replay_from}
use Rattle.transfer_table.proofs.fault.first_refused.Given as goal

-- The entries below this index are admitted.
abbrev pub invariant-loop-place : goal.invariant-loop-place
invariant-loop-place l = (l.board.plan ≡ l.fn.board.plan) × (refused_from l.fn.board.plan l.fn.board.state l.list 0 ≡ refused_from l.fn.board.plan l.board.state (drop l.place l.list) l.place)
    × (replay_from l.fn.board.plan l.fn.board.state l.list ≡ replay_from l.fn.board.plan l.board.state (drop l.place l.list))
