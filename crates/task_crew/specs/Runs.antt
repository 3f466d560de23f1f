-- The end of a run.
use Rattle.std.specs.Prelude.{◌≡◌, ◌≢◌, ◌<◌, ◌≤◌, ◌⊎◌, ℕ, List, length}
use Rattle.std.specs.List.{All}
use Rattle.atomic_table.specs.Seated.{TableId}
use Rattle.open_table.specs.declared.table.Size.{Size}
use Rattle.open_board.specs.declared.board.OpenBoard.{OpenBoard}
use Rattle.open_board.specs.declared.seat.OpenSeat.{OpenSeat}
use Rattle.open_board.specs.declared.ending.NotEnded.{NotEnded as Cause}
use Rattle.open_board.specs.declared.ending.NotEnded.TheVariants.{WrongCount, OutOfOrder, InSite}
use Rattle.open_board.specs.Ending.{HasFinished, IsHomeAgain}
use Rattle.open_board.specs.Of.{IsOf}
use Rattle.task_crew.specs.declared.error.RunError.{RunError}
use Rattle.task_crew.specs.declared.error.RunError.TheVariants.{HartCount, LevelCount, Task}

-- A reason why a board of so many harts does not end, as the caller of a run sees it.
abbrev pub IsReason : ℕ → Cause → Type 0
IsReason harts WrongCount = Unit {0}
IsReason harts (OutOfOrder position hart) = (position < harts) × (hart ≢ position)
IsReason harts (InSite hart site) = (hart < harts) × (site ≢ 0)

-- Why a run on so many harts with so many levels, of at most `most`, has no output: there are no harts or more than 64, there
-- are more levels than `most`, or, with numbers in range, the task failed or an allocation failed.
abbrev pub RunFails : {E : Type 0} → ℕ → ℕ → ℕ → (E → Type 0) → (E → Type 0) → RunError E → Type 0
RunFails most harts levels fails memory (HartCount n) = (n ≡ harts) × ((harts ≡ 0) ⊎ (64 < harts))
RunFails most harts levels fails memory (LevelCount n) = (n ≡ levels) × (1 ≤ harts) × (harts ≤ 64) × (most < levels)
RunFails most harts levels fails memory (Task error) =
    (1 ≤ harts) × (harts ≤ 64) × (levels ≤ most) × (fails error ⊎ memory error)

-- With these seats a board of this size has ended: each of its harts is at the base again, and all that the harts did is a list
-- of entries that the table of lent harts admits, after which no site is live.
abbrev pub AllAreHome : Size → List OpenSeat → Type 0
AllAreHome size seats =
    (length seats ≡ size.harts) × ((n : ℕ) → n < size.harts → IsHomeAgain seats n) × HasFinished size seats

-- A seat is at the board with these words and this size.
abbrev pub IsSeatOf : TableId → Size → OpenSeat → Type 0
IsSeatOf table size seat = (seat.seat.table_id ≡ table) × (seat.seat.me.0.size ≡ size)

-- The board has these words and this size, and there are seats, all of them of this board.
pub record AreSeated (table : TableId) (size : Size) (board : OpenBoard) (seats : List OpenSeat) : Type 0 where
  pub words : board.table.shared.table_id ≡ table
  pub same_size : board.size ≡ size
  pub each : All (IsOf board) seats
  pub some : 1 ≤ length seats
