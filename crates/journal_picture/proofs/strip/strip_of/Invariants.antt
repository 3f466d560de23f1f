use Rattle.std.proofs.Common.{◌≡◌, ◌++◌, drop}
use Rattle.journal_picture.specs.Strip.{HasWishesWithin, strip_from, strip_of}
use Rattle.journal_picture.proofs.strip.strip_of.Given as goal

-- The plan stays; the figures so far, and those from this state on; where the wishes are.
abbrev pub invariant-loop-entry : goal.invariant-loop-entry
invariant-loop-entry l =
    (l.board.plan ≡ l.plan)
    × (l.strip.items ++ strip_from l.plan l.board.state (drop l.entry-index l.list) ≡ strip_of l.plan l.list)
    × HasWishesWithin l.board.plan l.board.state l.wishing.low l.wishing.high
