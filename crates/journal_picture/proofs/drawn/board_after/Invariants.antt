use Rattle.std.proofs.Common.{◌≡◌, drop}
use Rattle.journal_picture.specs.Drawn.{state_from, state_after}
use Rattle.journal_picture.proofs.drawn.board_after.Given as goal

-- The plan stays, and the other entries lead to the state after all.
abbrev pub invariant-loop-entry : goal.invariant-loop-entry
invariant-loop-entry l =
    (l.board.plan ≡ l.plan) × (state_from l.plan l.board.state (drop l.entry-index l.list) ≡ state_after l.plan l.list)
