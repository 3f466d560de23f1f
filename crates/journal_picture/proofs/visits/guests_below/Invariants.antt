use Rattle.std.proofs.Common.{◌≡◌, ◌≤◌}
use Rattle.journal_picture.specs.Visits.{guests_below}
use Rattle.journal_picture.proofs.visits.guests_below.Given as goal

-- The guests among the harts so far.
abbrev pub invariant-loop-hart : goal.invariant-loop-hart
invariant-loop-hart l =
    (l.guests ≡ guests_below l.board.state.owners l.site l.home l.hart) × (l.guests ≤ l.hart)
