use Rattle.std.proofs.Common.{◌≡◌, ◌<◌, ℕ, length}
use Rattle.open_board.specs.Ending.{IsHomeAgain}
use Rattle.open_board.proofs.ending.why_not.Given as goal

-- Each seat below this index is that of the hart of its index, and the hart is at the base.
abbrev pub invariant-loop-place : goal.invariant-loop-place
invariant-loop-place l = (length l.seats ≡ l.board.size.harts) × ((n : ℕ) → n < l.place → IsHomeAgain l.seats n)
