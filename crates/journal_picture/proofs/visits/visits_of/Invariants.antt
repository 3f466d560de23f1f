use Rattle.std.proofs.Common.{◌≡◌}
use Rattle.journal_picture.proofs.Visited.{SoFar}
use Rattle.journal_picture.proofs.visits.visits_of.Given as goal

-- The plan stays, and each site has its numbers so far.
abbrev pub invariant-loop-entry : goal.invariant-loop-entry
invariant-loop-entry l =
    (l.board.plan ≡ l.plan) × SoFar l.plan l.list l.entry-index l.board.state l.visits.items
