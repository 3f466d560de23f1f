use Rattle.std.proofs.Common.{◌≡◌, ◌≤◌}
use Rattle.journal_picture.specs.Strip.{idle_up_to}
use Rattle.journal_picture.proofs.strip.idle_in.Given as goal

-- The idle ones of the harts so far.
abbrev pub invariant-loop-i : goal.invariant-loop-i
invariant-loop-i l = (l.idle ≡ idle_up_to l.board.state l.i) × (l.idle ≤ l.i)
