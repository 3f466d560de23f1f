-- The pieces of a phase as they come, in stripes. A stripe has every eighth slot of the phase, under a lock of its own; a row
-- is an index inside a stripe.
use Rattle.std.specs.Prelude.{◌≡◌, ℕ, ◌+◌, ◌*◌, ◌<◌, List, length, slice_get, slice_set, Option, Some, None, Result, Ok, Err}
use Rattle.array_meaning.specs.Stores.{Store}
use Rattle.array_jobs.specs.Jobs.{JobParts, job_of}
use Rattle.array_jobs.specs.PieceParts.{PieceParts}
use Rattle.array_eval.specs.Overlays.{Laid}
use Rattle.join_book.specs.Books.{Open, IsMarked}
use Rattle.lithe_barrier.specs.declared.state.Arrival.{Arrival}
use Rattle.lithe_barrier.specs.declared.state.Arrival.TheVariants.{Opened}
use Rattle.loop_team.specs.declared.stripes.Seat.{Seat}
use Rattle.loop_team.specs.declared.stripes.Seat.TheVariants as seat
use Rattle.loop_team.specs.declared.stripes.TheConstants.{STRIPES, ROWS}
use Rattle.loop_team.specs.Teams.{TeamParts}

-- While a slot is open, all jobs of the team's phase start from the store.
abbrev pub StartsFrom : TeamParts → Store → Type 0
StartsFrom team store = (place : ℕ) → IsMarked team.barrier place Open
    → (i : ℕ) (job : JobParts) → slice_get team.barrier.jobs i ≡ Some job → job.store ≡ store

-- The slot at this index waits for the piece of this job.
pub record IsAwaited (team : TeamParts) (place : ℕ) (job : JobParts) : Type 0 where
  pub waits : IsMarked team.barrier place Open
  pub own : slice_get team.barrier.jobs place ≡ Some job

-- The parts of a stripe that contracts see: its number, the store from which its jobs start, and the state of its slots.
pub record StripeParts : Type 0 where
  pub number : ℕ
  pub start : Store
  pub seats : List Seat

-- The job of a slot, whose piece is awaited or has come, starts from the store.
abbrev pub Starts : Store → Seat → Type 0
Starts start (seat.Open job) = job.store ≡ start
Starts start (seat.Came piece) = piece.job.store ≡ start
Starts start seat.Gone = Unit {0}

-- All jobs start from the store.
abbrev pub StartFrom : Store → List Seat → Type 0
StartFrom start seats = (row : ℕ) (s : Seat) → slice_get seats row ≡ Some s → Starts start s

-- The stripe's invariant: its number is below the number of stripes, and all its jobs start from its store.
pub record IsKeptStripe (stripe : StripeParts) : Type 0 where
  pub few : stripe.number < STRIPES
  pub starts : StartFrom stripe.start stripe.seats

-- The slot waits for its piece.
abbrev pub IsVacant : Seat → Type 0
IsVacant (seat.Open job) = Unit {0}
IsVacant (seat.Came piece) = ⊥
IsVacant seat.Gone = ⊥

-- The piece of the slot has come.
abbrev pub HasCome : Seat → Type 0
HasCome (seat.Open job) = ⊥
HasCome (seat.Came piece) = Unit {0}
HasCome seat.Gone = ⊥

-- The slot is open for the piece of this job.
abbrev pub IsOf : Seat → JobParts → Type 0
IsOf (seat.Open own) job = job_of own ≡ job_of job
IsOf (seat.Came piece) job = ⊥
IsOf seat.Gone job = ⊥

-- The row is open.
abbrev pub IsOpen : StripeParts → ℕ → Type 0
IsOpen stripe row = (s : Seat) × (slice_get stripe.seats row ≡ Some s) × IsVacant s

-- The piece of the row has come.
abbrev pub HasPiece : StripeParts → ℕ → Type 0
HasPiece stripe row = (s : Seat) × (slice_get stripe.seats row ≡ Some s) × HasCome s

-- The row is open for the piece of this job.
abbrev pub WaitsFor : StripeParts → ℕ → JobParts → Type 0
WaitsFor stripe row job = (s : Seat) × (slice_get stripe.seats row ≡ Some s) × IsOf s job

-- The stripe with this slot in the row.
abbrev pub with_seat : StripeParts → ℕ → Seat → StripeParts
with_seat stripe row s = record stripe { seats = slice_set stripe.seats row s }

-- A piece for a row has this result and leaves this stripe. The stripe keeps the piece if the row waits for it.
abbrev pub Receives : StripeParts → ℕ → PieceParts → Result (Unit {0}) PieceParts → StripeParts → Type 0
Receives before row piece (Ok done) after =
    WaitsFor before row piece.job × (after ≡ with_seat before row (seat.Came piece))
Receives before row piece (Err back) after =
    (¬ WaitsFor before row piece.job) × (back ≡ piece) × (after ≡ before)

-- A row returns its piece and leaves this stripe: once, exactly if the piece has come.
abbrev pub Gives : StripeParts → ℕ → Option PieceParts → StripeParts → Type 0
Gives before row (Some piece) after =
    (slice_get before.seats row ≡ Some (seat.Came piece)) × (piece.job.store ≡ before.start)
    × (after ≡ with_seat before row seat.Gone)
Gives before row None after = (¬ HasPiece before row) × (after ≡ before)

-- No piece at this index is awaited.
abbrev pub IsNotAwaited : TeamParts → ℕ → Type 0
IsNotAwaited team place = (job : JobParts) → ¬ IsAwaited team place job

-- The slot waits in the stripe exactly if it does in the team, and with the same job.
abbrev pub IsSeatOf : TeamParts → ℕ → Seat → Type 0
IsSeatOf team place (seat.Open job) = IsAwaited team place job
IsSeatOf team place (seat.Came piece) = ⊥
IsSeatOf team place seat.Gone = IsNotAwaited team place

-- The rows of a stripe are the team's slots from the stripe's number on, in steps of the number of stripes.
abbrev pub AreSeatsOf : TeamParts → ℕ → List Seat → Type 0
AreSeatsOf team number seats = (row : ℕ) (s : Seat) → slice_get seats row ≡ Some s
    → IsSeatOf team (number + row * STRIPES) s

-- No slot of the team's phase is missing.
abbrev pub AreAllSeatsOf : TeamParts → ℕ → List Seat → Type 0
AreAllSeatsOf team number seats = (row : ℕ) → row < ROWS → number + row * STRIPES < length team.barrier.jobs
    → row < length seats

-- The row has no piece, and no other row has a piece that had none before.
pub record IsRid (before : StripeParts) (row : ℕ) (after : StripeParts) : Type 0 where
  pub start : after.start ≡ before.start
  pub none : ¬ HasPiece after row
  pub others : (other : ℕ) → HasPiece after other → HasPiece before other

-- The result of a piece isn't the phase's writes.
abbrev pub IsNotOpened : Arrival → Type 0
IsNotOpened arrival = (written : Laid) → ¬ (arrival ≡ Opened written)

-- The stripe has no piece.
abbrev pub HasNone : StripeParts → Type 0
HasNone stripe = (row : ℕ) → row < ROWS → ¬ HasPiece stripe row

-- The team is still in the same phase.
pub record IsStillIn (before after : TeamParts) : Type 0 where
  pub nested : after.nested ≡ before.nested
  pub opened : after.opened ≡ before.opened
  pub starts : (store : Store) → StartsFrom before store → StartsFrom after store
