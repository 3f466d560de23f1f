-- Pieces that are kept for a pool.
use Rattle.std.proofs.Common.{◌≡◌, ◌∙◌, ◌∷◌, ◌++◌, Option, Some, None, option_map, Result, Ok, Err, [], inl, inr, refl, ap, sym, subst}
use Rattle.std.specs.Option.{IsSome, IsSomeAnd}
use Rattle.array_jobs.specs.PieceParts.{PieceParts}
use Rattle.forkjoin_sched.specs.Pools.{start_of}
use Rattle.forkjoin_sched.specs.Shared.{SharedParts}
use Rattle.forkjoin_sched.specs.Batches.{BatchParts, Adds, Starts, new_batch, emptied}
use Rattle.forkjoin_sched.specs.declared.batch.NotAdded.{NotAdded}
use Rattle.forkjoin_sched.specs.declared.batch.NotAdded.TheVariants.{OtherStart, OutOfMemory}
use Rattle.shared_sites.specs.declared.scheduler_ref.SchedulerRef.{SchedulerRef}
use Rattle.shared_sites.specs.declared.scheduler_ref.SchedulerRef.TheVariants.{Base, Pool, Team, Pipe, NoScheduler}
use Rattle.shared_sites.specs.Keeping.{pieces_of, begun, MayKeepIn, Keeps, handed_to, StayOrGo}

-- A batch that is kept goes on.
pub begun_some : (pool : SharedParts) (kept : Option BatchParts) → IsSome kept → kept ≡ begun pool kept
begun_some pool (Some batch) is = refl
begun_some pool None is = cc is

-- No batch begins if the pool's start isn't known.
pub begun_none : (pool : SharedParts) (kept : Option BatchParts) → ¬ IsSome kept → None ≡ start_of pool.knows_start pool.jobs → kept ≡ begun pool kept
begun_none pool (Some batch) isnt unknown = absurd (isnt refl)
begun_none pool None isnt unknown = ap (option_map new_batch) unknown

-- A batch without pieces that starts as the pool's jobs do.
pub begun_now : (pool : SharedParts) (kept : Option BatchParts) (batch : BatchParts) → ¬ IsSome kept → Some batch.start ≡ start_of pool.knows_start pool.jobs
    → batch.pieces ≡ [] → Some batch ≡ begun pool kept
begun_now pool (Some old) batch isnt known none = absurd (isnt refl)
begun_now pool None batch isnt known none = ap (λ ps. Some (record batch { pieces = ps })) none ∙ ap (option_map new_batch) known

-- A piece that is added to the batch that has begun, or isn't.
pub added_keeps : (pool : SharedParts) (before mid : Option BatchParts) (batch : BatchParts) (piece : PieceParts) (added : Result (Unit {0}) NotAdded) (after : BatchParts)
    → mid ≡ begun pool before → pieces_of mid ≡ pieces_of before → mid ≡ Some batch → Adds batch piece added after → Keeps pool before piece added (Some after)
added_keeps pool before mid batch piece added after is pieces there adds = of added adds
  where
    same : Some batch ≡ begun pool before
    same = sym there ∙ is

    kept : batch.pieces ≡ pieces_of before
    kept = ap pieces_of (sym there) ∙ pieces

    P : Option BatchParts → Type 0
    P o = IsSomeAnd o (λ b. Starts b.start piece)

    of : (added : Result (Unit {0}) NotAdded) → Adds batch piece added after → Keeps pool before piece added (Some after)
    of (Ok done) adds = (subst P same adds.0, ap (λ (b : BatchParts). b.pieces) adds.1 ∙ ap (λ ps. ps ++ piece ∷ []) kept)
    of (Err (OtherStart back)) adds = (λ may. adds.0 (subst P (sym same) may), adds.1, ap (λ (b : BatchParts). b.pieces) adds.2 ∙ kept)
    of (Err (OutOfMemory back)) adds = (adds.1, ap (λ (b : BatchParts). b.pieces) adds.2 ∙ kept)

-- Without a batch no piece may be kept.
pub none_kept : (pool : SharedParts) (before mid : Option BatchParts) (piece : PieceParts) → mid ≡ begun pool before → mid ≡ None → ¬ MayKeepIn pool before piece
none_kept pool before mid piece is none may = subst (λ (o : Option BatchParts). IsSomeAnd o (λ b. Starts b.start piece)) (sym is ∙ none) may

-- A batch that has no piece is the batch without its pieces.
pub none_to_empty : (batch : BatchParts) → batch.pieces ≡ [] → batch ≡ emptied batch
none_to_empty batch none = ap (λ pieces. record batch { pieces = pieces }) none

-- What was handed over isn't handed over again.
handed_twice : (scheduler_ref : SchedulerRef) (kept : Option BatchParts)
    → handed_to scheduler_ref (handed_to scheduler_ref kept) ≡ handed_to scheduler_ref kept
handed_twice (Pool pool) None = refl
handed_twice (Pool pool) (Some batch) = refl
handed_twice (Base base) kept = refl
handed_twice (Team team) kept = refl
handed_twice (Pipe pipe) kept = refl
handed_twice NoScheduler kept = refl

-- Pieces that stayed until they were handed over, or went before, were handed over.
pub go_now : (scheduler_ref : SchedulerRef) (before between after : Option BatchParts) → StayOrGo scheduler_ref before between
    → after ≡ handed_to scheduler_ref between → after ≡ handed_to scheduler_ref before
go_now scheduler_ref before between after (inl stay) go = go ∙ ap (handed_to scheduler_ref) stay
go_now scheduler_ref before between after (inr gone) go = go ∙ ap (handed_to scheduler_ref) gone ∙ handed_twice scheduler_ref before
