-- A pool under a lock, without its lock-protected state.
use Rattle.std.specs.Prelude.{◌≡◌, Bool, ℕ, List, slice_get, Some}
use Rattle.array_jobs.specs.Jobs.{JobParts, job_of}
use Rattle.array_jobs.specs.PieceParts.{PieceParts}
use Rattle.join_book.specs.declared.book.Deposit.{Deposit}
use Rattle.join_book.specs.declared.book.Deposit.TheVariants.{Kept, Double, Stranger}

-- The parts of a shared pool that contracts see: the site and the jobs of the pool of which it was made, and whether all these jobs
-- were known to start from one store.
pub record SharedParts : Type 0 where
  pub site : ℕ
  pub jobs : List JobParts
  pub knows_start : Bool

-- The job is the job of the index that it names.
abbrev pub HasJob : SharedParts → JobParts → Type 0
HasJob shared job = (own : JobParts) × (slice_get shared.jobs job.place ≡ Some own)
    × (job_of own ≡ job_of job)

-- The results of a deposit for any lock-protected state: a piece is kept, or is a `Double`, only if its job is the job of its
-- index. A piece that isn't kept is returned.
abbrev pub Receives : SharedParts → PieceParts → Deposit → Type 0
Receives shared piece Kept = HasJob shared piece.job
Receives shared piece (Double back) = HasJob shared piece.job × (back ≡ piece)
Receives shared piece (Stranger back) = back ≡ piece
