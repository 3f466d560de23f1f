-- The pieces of a pipeline: their jobs, how they are handed out, and how they come back.
use Rattle.std.specs.Prelude.{◌≡◌, ℕ, List, [], ◌∷◌, slice_get, Option, Some, None, Result, Ok, Err, true}
use Rattle.array_meaning.specs.Stores.{Store, Write, arrays_of, after}
use Rattle.array_jobs.specs.Jobs.{JobParts, JobTree, job_of}
use Rattle.array_jobs.specs.PieceParts.{PieceParts}
use Rattle.join_book.specs.declared.book.Deposit.{Deposit}
use Rattle.join_book.specs.declared.book.Deposit.TheVariants.{Kept, Double, Stranger}
use Rattle.step_eval.specs.Nests.{NestedTree, nested_of, rounds_of, jobs_in}
use Rattle.phase_order.specs.Crossings.{HasNoCrossing}
use Rattle.phase_order.specs.Pipes.{written_before, piped}
use Rattle.pipe_sched.specs.Slots.{Mark, Out, Filled, PipeParts, IsMarked, IsDue, NoneIsDue, is_begun, marked_pipe, failed_pipe}

-- The writes of the pieces of a construct in a pipeline, phase after phase.
abbrev pub piped_writes : NestedTree → List (List (List Write))
piped_writes nested =
    piped (arrays_of nested.arrays) (rounds_of nested.construct nested.vars) nested.store

-- The store that the predecessors of member j in phase k leave.
abbrev pub piped_store : NestedTree → ℕ → ℕ → Store
piped_store nested j k = after (written_before (piped_writes nested) j k) nested.store

-- The job of member j in phase k: it starts from that store.
abbrev pub IsJobAt : NestedTree → ℕ → ℕ → JobTree → Type 0
IsJobAt nested j k job = slice_get (jobs_in nested k (piped_store nested j k)) j ≡ Some job

-- No two pieces of the construct cross.
abbrev pub IsUncrossed : NestedTree → Type 0
IsUncrossed nested =
    HasNoCrossing (arrays_of nested.arrays) (rounds_of nested.construct nested.vars)

-- The job was handed out: it is the job of the member and the phase that it names, and that piece was handed out.
pub record WasHandedOut (pipe : PipeParts) (job : JobParts) : Type 0 where
  pub mark : Mark
  pub marked : IsMarked pipe job.place job.phase mark
  pub begun : is_begun mark ≡ true
  pub own : IsJobAt (nested_of pipe.nested) job.place job.phase (job_of job)

-- The pipeline hands out the piece that is due, with its job.
pub record HandsOut (before : PipeParts) (job : JobParts) (after : PipeParts) : Type 0 where
  pub due : IsDue before job.place job.phase
  pub own : IsJobAt (nested_of before.nested) job.place job.phase (job_of job)
  pub marked : after ≡ marked_pipe before job.place job.phase Out
  pub out : IsMarked after job.place job.phase Out

-- A relation of the pipeline, the job handed out, and the pipeline afterwards. It hands out no job only if no piece is due.
abbrev pub GivesDue : PipeParts → Option JobParts → PipeParts → Type 0
GivesDue before (Some job) after = HandsOut before job after
GivesDue before None after = NoneIsDue before × (after ≡ before)

-- An allocation failure changes nothing.
abbrev pub Gives : {E : Type 0} → PipeParts → Result (Option JobParts) E → PipeParts → Type 0
Gives before (Ok given) after = GivesDue before given after
Gives before (Err refused) after = after ≡ before

-- Pieces for which an allocation failed fail one after another, each when it is the one that is due.
abbrev pub FailWhenDue : PipeParts → List (ℕ × ℕ) → PipeParts → Type 0
FailWhenDue before [] after = after ≡ before
FailWhenDue before ((j, k) ∷ pieces) after =
    IsDue before j k × FailWhenDue (failed_pipe before j k) pieces after

-- Some pieces fail one after another, and then the pipeline hands out what is due.
pub record GivesAfterFailing (before : PipeParts) (given : Option JobParts)
    (after : PipeParts) : Type 0 where
  pub failed : List (ℕ × ℕ)
  pub left : PipeParts
  pub fail : FailWhenDue before failed left
  pub gives : GivesDue left given after

-- A deposit of a piece has this result and leaves this pipeline.
abbrev pub Deposits : PipeParts → PieceParts → Deposit → PipeParts → Type 0
Deposits before piece Kept after =
    WasHandedOut before piece.job × IsMarked before piece.job.place piece.job.phase Out
    × (after ≡ marked_pipe before piece.job.place piece.job.phase Filled)
Deposits before piece (Double back) after =
    WasHandedOut before piece.job × (¬ IsMarked before piece.job.place piece.job.phase Out)
    × (back ≡ piece) × (after ≡ before)
Deposits before piece (Stranger back) after =
    (¬ WasHandedOut before piece.job) × (back ≡ piece) × (after ≡ before)
