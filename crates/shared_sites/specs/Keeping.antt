-- The pieces of a pool that a hart keeps for a while.
use Rattle.std.specs.Prelude.{◌≡◌, ◌⊎◌, List, [], ◌∷◌, ◌++◌, Option, Some, None, option_map, Result, Ok, Err}
use Rattle.std.specs.Option.{IsSomeAnd}
use Rattle.array_jobs.specs.Jobs.{JobParts}
use Rattle.array_jobs.specs.PieceParts.{PieceParts}
use Rattle.sched_api.specs.declared.scheduler.Next.{Next}
use Rattle.sched_api.specs.declared.scheduler.Next.TheVariants.{Run, Lend, Nothing}
use Rattle.forkjoin_sched.specs.Pools.{start_of}
use Rattle.forkjoin_sched.specs.Shared.{SharedParts}
use Rattle.forkjoin_sched.specs.Batches.{BatchParts, Starts, new_batch, emptied}
use Rattle.forkjoin_sched.specs.declared.batch.NotAdded.{NotAdded}
use Rattle.forkjoin_sched.specs.declared.batch.NotAdded.TheVariants.{OtherStart, OutOfMemory}
use Rattle.shared_sites.specs.declared.scheduler_ref.SchedulerRef.{SchedulerRef}
use Rattle.shared_sites.specs.declared.scheduler_ref.SchedulerRef.TheVariants.{Base, Pool, Team, Pipe, NoScheduler}

-- The pieces that are kept. There are none before a batch begins.
abbrev pub pieces_of : Option BatchParts → List PieceParts
pieces_of None = []
pieces_of (Some batch) = batch.pieces

-- The batch that is kept, or else one without pieces that starts as the pool's jobs do, if their start is known.
abbrev pub begun : SharedParts → Option BatchParts → Option BatchParts
begun pool (Some batch) = Some batch
begun pool None = option_map new_batch (start_of pool.knows_start pool.jobs)

-- There is such a batch, and the piece's job starts from its store.
abbrev pub MayKeepIn : SharedParts → Option BatchParts → PieceParts → Type 0
MayKeepIn pool kept piece = IsSomeAnd (begun pool kept) (λ batch. Starts batch.start piece)

-- A piece is kept behind those that were kept before, if its job starts from their store. Otherwise, or if an allocation fails, it
-- is returned, and no kept piece is lost.
abbrev pub Keeps : SharedParts → Option BatchParts → PieceParts → Result (Unit {0}) NotAdded
    → Option BatchParts → Type 0
Keeps pool before piece (Ok done) after =
    MayKeepIn pool before piece × (pieces_of after ≡ pieces_of before ++ piece ∷ [])
Keeps pool before piece (Err (OtherStart back)) after =
    (¬ MayKeepIn pool before piece) × (back ≡ piece) × (pieces_of after ≡ pieces_of before)
Keeps pool before piece (Err (OutOfMemory back)) after =
    (back ≡ piece) × (pieces_of after ≡ pieces_of before)

-- The scheduler is a pool, and the piece's job starts from the store of the kept pieces. Pieces of other schedulers aren't kept.
abbrev pub MayKeep : SchedulerRef → Option BatchParts → PieceParts → Type 0
MayKeep (Pool pool) kept piece = MayKeepIn pool.shared.now kept piece
MayKeep (Base base) kept piece = ⊥
MayKeep (Team team) kept piece = ⊥
MayKeep (Pipe pipe) kept piece = ⊥
MayKeep NoScheduler kept piece = ⊥

-- No kept piece is lost. Unless an allocation fails, this piece is kept behind them exactly if it may be kept.
abbrev pub StillKeeps : {E : Type 0} → SchedulerRef → Option BatchParts → PieceParts → Result (Unit {0}) E
    → Option BatchParts → Type 0
StillKeeps scheduler_ref before piece (Ok done) after =
    (MayKeep scheduler_ref before piece × (pieces_of after ≡ pieces_of before ++ piece ∷ []))
    ⊎ ((¬ MayKeep scheduler_ref before piece) × (pieces_of after ≡ pieces_of before))
StillKeeps scheduler_ref before piece (Err failed) after = pieces_of after ≡ pieces_of before

-- The batch after its pieces were handed over to the scheduler: a pool gets all of them, and no other scheduler gets any.
abbrev pub handed_to : SchedulerRef → Option BatchParts → Option BatchParts
handed_to (Pool pool) kept = option_map emptied kept
handed_to (Base base) kept = kept
handed_to (Team team) kept = kept
handed_to (Pipe pipe) kept = kept
handed_to NoScheduler kept = kept

-- All kept pieces stay, or all are handed over to the scheduler.
abbrev pub StayOrGo : SchedulerRef → Option BatchParts → Option BatchParts → Type 0
StayOrGo scheduler_ref before after = (after ≡ before) ⊎ (after ≡ handed_to scheduler_ref before)

-- A hart keeps pieces of a pool only while it gets jobs.
abbrev pub HandsOver : SchedulerRef → Option BatchParts → Next JobParts → Option BatchParts → Type 0
HandsOver scheduler_ref before (Run job) after = StayOrGo scheduler_ref before after
HandsOver scheduler_ref before (Lend child) after = after ≡ handed_to scheduler_ref before
HandsOver scheduler_ref before Nothing after = after ≡ handed_to scheduler_ref before
