-- A book: jobs, and for each a slot for its piece.
use Rattle.std.specs.Prelude.{◌≡◌, ℕ, ◌<◌, List, [], ◌∷◌, length, map, slice_get, slice_set, replicate, Some}
use Rattle.array_meaning.specs.Stores.{Write}
use Rattle.array_meaning.specs.Pieces.{merged}
use Rattle.array_eval.specs.Overlays.{cell_numbers, Laid}
use Rattle.array_eval.specs.Traces.{Trace, marked}
use Rattle.array_jobs.specs.Jobs.{JobParts, job_of, IsFit}
use Rattle.array_jobs.specs.PieceParts.{PieceParts, piece_of_job}
use Rattle.join_book.specs.declared.place.Place.{Place}
use Rattle.join_book.specs.declared.place.Place.TheVariants as place
use Rattle.join_book.specs.declared.book.Deposit.{Deposit}
use Rattle.join_book.specs.declared.book.Deposit.TheVariants.{Kept, Double, Stranger}

-- The state of a slot: it is open, or has the piece of its own job, or is failed by an allocation failure.
pub data Mark : Type 0 where
  Open : Mark
  Filled : Mark
  Failed : Mark

-- The parts of a book that contracts see: its jobs, and each slot as open, filled or failed. Why no contents: by the book's
-- invariant the contents follow from the job.
pub record BookParts : Type 0 where
  pub jobs : List JobParts
  pub places : List Mark

-- The mark of a slot: its state without the contents.
abbrev pub mark_of : Place → Mark
mark_of place.Open = Open
mark_of (place.Filled written) = Filled
mark_of place.Failed = Failed

-- The book's invariant: there are jobs, each is fit and names its index, and they start from stores of one size. Each job has a
-- slot, and a filled slot has the writes of its job.
pub record IsKept (jobs : List JobParts) (places : List Place) : Type 0 where
  pub some : 0 < length jobs
  pub fit : (i : ℕ) (job : JobParts) → slice_get jobs i ≡ Some job → IsFit (job_of job)
  pub named : (i : ℕ) (job : JobParts) → slice_get jobs i ≡ Some job → job.place ≡ i
  pub cells : (i k : ℕ) (a b : JobParts) → slice_get jobs i ≡ Some a → slice_get jobs k ≡ Some b
      → length a.store ≡ length b.store
  pub each : length places ≡ length jobs
  pub filled : (i : ℕ) (job : JobParts) (written : Laid) → slice_get jobs i ≡ Some job
      → slice_get places i ≡ Some (place.Filled written) →
      written.pairs ≡ piece_of_job (job_of job)

-- The book of these jobs, none of which is done.
abbrev pub open_book : List JobParts → BookParts
open_book jobs = record { jobs = jobs; places = replicate (length jobs) Open }

-- The slot at index i has this mark.
abbrev pub IsMarked : BookParts → ℕ → Mark → Type 0
IsMarked book i mark = slice_get book.places i ≡ Some mark

-- The index is the job's own.
abbrev pub IsPlaceOf : BookParts → ℕ → JobParts → Type 0
IsPlaceOf book i job = (own : JobParts) × (slice_get book.jobs i ≡ Some own)
    × (job_of own ≡ job_of job)

-- The book with this mark at index i.
abbrev pub marked_book : BookParts → ℕ → Mark → BookParts
marked_book book i mark = record book { places = slice_set book.places i mark }

-- Every slot is filled or failed.
abbrev pub IsFull : BookParts → Type 0
IsFull book = (i : ℕ) → ¬ IsMarked book i Open

-- Some slot is failed.
abbrev pub HasFailed : BookParts → Type 0
HasFailed book = (i : ℕ) × IsMarked book i Failed

-- The writes of the jobs of the filled slots, in the order of their indices.
abbrev pub filled_pieces : List JobParts → List Mark → List (List Write)
filled_pieces [] marks = []
filled_pieces (job ∷ jobs) [] = []
filled_pieces (job ∷ jobs) (Open ∷ marks) = filled_pieces jobs marks
filled_pieces (job ∷ jobs) (Filled ∷ marks) = piece_of_job (job_of job) ∷ filled_pieces jobs marks
filled_pieces (job ∷ jobs) (Failed ∷ marks) = filled_pieces jobs marks

-- Each job starts from a store with as many cells.
abbrev pub HaveCells : BookParts → ℕ → Type 0
HaveCells book cells = (i : ℕ) (job : JobParts) → slice_get book.jobs i ≡ Some job
    → length job.store ≡ cells

-- The store has the jobs' cells, none of which is marked.
pub record IsBlank (book : BookParts) (store : Trace) : Type 0 where
  pub cells : HaveCells book (length store.cells)
  pub few : length store.cells < cell_numbers
  pub marks : length store.marks ≡ length store.cells
  pub unmarked : marked store ≡ []

-- The writes of all jobs, merged in the order of their indices.
abbrev pub all_writes : BookParts → List Write
all_writes book = merged (map (λ job. piece_of_job (job_of job)) book.jobs) []

-- A deposit of a piece has this result and leaves this book. The piece goes into the slot of its own job, if the slot is open.
abbrev pub Deposits : BookParts → PieceParts → Deposit → BookParts → Type 0
Deposits before piece Kept after =
    IsPlaceOf before piece.job.place piece.job × IsMarked before piece.job.place Open
    × (after ≡ marked_book before piece.job.place Filled)
Deposits before piece (Double back) after =
    IsPlaceOf before piece.job.place piece.job × (¬ IsMarked before piece.job.place Open)
    × (back ≡ piece) × (after ≡ before)
Deposits before piece (Stranger back) after =
    ((i : ℕ) → ¬ IsPlaceOf before i piece.job) × (back ≡ piece) × (after ≡ before)

-- The slot that the job names exists, and the slot's own job starts from as many cells.
abbrev pub HasPlaceFor : BookParts → JobParts → Type 0
HasPlaceFor book job = (own : JobParts) × (slice_get book.jobs job.place ≡ Some own)
    × (length own.store ≡ length job.store)

-- The slot that the piece's job names is filled, with that job instead of the slot's own.
abbrev pub with_piece : BookParts → PieceParts → BookParts
with_piece book piece = record {
  jobs = slice_set book.jobs piece.job.place piece.job;
  places = slice_set book.places piece.job.place Filled;
}

-- A piece that isn't compared has this result and leaves this book. It goes into the slot that its job names, if the slot is
-- open, with its job.
abbrev pub Puts : BookParts → PieceParts → Deposit → BookParts → Type 0
Puts before piece Kept after =
    HasPlaceFor before piece.job × IsMarked before piece.job.place Open
    × (after ≡ with_piece before piece)
Puts before piece (Double back) after =
    HasPlaceFor before piece.job × (¬ IsMarked before piece.job.place Open) × (back ≡ piece)
    × (after ≡ before)
Puts before piece (Stranger back) after =
    (¬ HasPlaceFor before piece.job) × (back ≡ piece) × (after ≡ before)
