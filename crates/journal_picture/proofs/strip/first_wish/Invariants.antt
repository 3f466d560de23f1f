use Rattle.journal_picture.specs.Strip.{HasWishesWithin}
use Rattle.journal_picture.proofs.strip.first_wish.Given as goal

-- No site so far has a wish.
abbrev pub invariant-loop-i : goal.invariant-loop-i
invariant-loop-i l = HasWishesWithin l.board.plan l.board.state l.i l.high
