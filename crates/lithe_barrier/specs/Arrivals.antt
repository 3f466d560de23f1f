-- A barrier: a book of one phase, in which no slot fails, and which opens once.
use Rattle.std.specs.Prelude.{◌≡◌, ℕ, ◌≤◌, [], length, map, Option, IsSome}
use Rattle.std.specs.Option.{ForSome}
use Rattle.array_jobs.specs.Jobs.{job_of}
use Rattle.array_jobs.specs.Groups.{IsGroup}
use Rattle.array_jobs.specs.PieceParts.{PieceParts}
use Rattle.join_book.specs.Books.{BookParts, Open, Filled, IsMarked, IsPlaceOf, IsFull, HasFailed, IsBlank, marked_book, all_writes}
use Rattle.lithe_barrier.specs.declared.state.Arrival.{Arrival}
use Rattle.lithe_barrier.specs.declared.state.Arrival.TheVariants.{Kept, Opened, Stranger}
use Rattle.lithe_barrier.specs.declared.state.Room.{Room}

-- The piece's own slot is free, and becomes filled.
pub record Fills (before : BookParts) (piece : PieceParts) (after : BookParts) : Type 0 where
  pub own : IsPlaceOf before piece.job.place piece.job
  pub free : IsMarked before piece.job.place Open
  pub filled : after ≡ marked_book before piece.job.place Filled

-- A relation of a barrier, a piece, the result and the barrier afterwards. The barrier opens with the last piece that it waited
-- for.
abbrev pub Arrives : BookParts → PieceParts → Arrival → BookParts → Type 0
Arrives before piece Kept after = Fills before piece after × (¬ IsFull after)
Arrives before piece (Opened written) after =
    Fills before piece after × IsFull after × (written.pairs ≡ all_writes before)
Arrives before piece (Stranger back) after =
    ((i : ℕ) → IsPlaceOf before i piece.job → ¬ IsMarked before i Open) × (back ≡ piece)
    × (after ≡ before)

-- Room for the writes of the jobs: a blank store of their size, and an empty overlay with room for each cell.
pub record IsRoomFor (book : BookParts) (room : Room) : Type 0 where
  pub blank : IsBlank book room.store
  pub none : room.overlay.pairs ≡ []
  pub enough : length room.store.cells ≤ room.overlay.room

-- The barrier's invariant: the jobs are a group, no slot has failed, and while a slot is free there is room for all that will
-- be written.
pub record IsWaiting (book : BookParts) (room : Option Room) : Type 0 where
  pub group : IsGroup (map job_of book.jobs)
  pub none_failed : ¬ HasFailed book
  pub ready : (i : ℕ) → IsMarked book i Open → IsSome room
  pub right : ForSome room (λ r. IsRoomFor book r)

-- The result of an arrival under the lock: the piece is kept, is part of what is handed out, or is returned.
abbrev pub GivesBack : PieceParts → Arrival → Type 0
GivesBack piece Kept = Unit {0}
GivesBack piece (Opened written) = Unit {0}
GivesBack piece (Stranger back) = back ≡ piece
