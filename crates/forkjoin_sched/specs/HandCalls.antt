-- The calls of a hart's hand.
use Rattle.std.specs.Prelude.{◌≡◌, ◌⊎◌, ℕ, List, length, Option, Some, None}
use Rattle.sched_api.specs.declared.scheduler.Next.{Next}
use Rattle.sched_api.specs.declared.scheduler.Next.TheVariants.{Run, Lend, Nothing}
use Rattle.step_eval.specs.declared.work.Work.{Work}
use Rattle.step_eval.specs.declared.work.Work.TheVariants.{Begin, Ready}
use Rattle.forkjoin_sched.specs.declared.looks.Found.{Found}
use Rattle.forkjoin_sched.specs.declared.looks.Found.TheVariants as found
use Rattle.forkjoin_sched.specs.declared.hand.PoolHand.{PoolHand}
use Rattle.forkjoin_sched.specs.Batches.{BatchParts, emptied}
use Rattle.forkjoin_sched.specs.Hands.{Sees, Keeps, IsFoundBare, HasTaken, PushesCodes, IsFalling, code_of}

-- The hand is the same: on the same pool and deque, with the same access to the deques.
pub record IsSame {R : Type 0} (before after : PoolHand R) : Type 0 where
  pub shared : after.shared ≡ before.shared
  pub home : after.home ≡ before.home
  pub level : after.level ≡ before.level
  pub name : after.rows.ghost_name ≡ before.rows.ghost_name

-- Nothing was done with the deques, and no look for work was taken.
pub record IsStill {R : Type 0} (before after : PoolHand R) : Type 0 where
  pub same : IsSame before after
  pub rows : after.rows.now ≡ before.rows.now
  pub looks : after.looks ≡ before.looks

-- The hand is the same, and one more look under the lock had this result.
abbrev pub HasSeen : {R : Type 0} → PoolHand R → Found → PoolHand R → Type 0
HasSeen before what after =
    IsSame before after × (after.rows.now ≡ before.rows.now) × Sees before.looks what after.looks

-- A look under the lock found a ready context, which is taken.
abbrev pub TakesReadyBy : {R : Type 0} → PoolHand R → Option Work → PoolHand R → Type 0
TakesReadyBy before (Some work) after = HasSeen before found.Work after
TakesReadyBy before None after = IsStill before after

-- A look under the lock found the cause of this result.
abbrev pub LooksBy : {R : Type 0} → PoolHand R → Next Work → PoolHand R → Type 0
LooksBy before (Run work) after = HasSeen before found.Work after
LooksBy before (Lend site) after = HasSeen before found.Work after
LooksBy before Nothing after = HasSeen before found.HandedOut after ⊎ HasSeen before found.NoneLeft after

-- A look under the lock put all pieces of the batch into the pool, or found the pool handed out. The batch has none left.
abbrev pub HandsOverBy : {R : Type 0} → PoolHand R → BatchParts → PoolHand R → BatchParts → Type 0
HandsOverBy before batch after batch' =
    (batch' ≡ emptied batch)
    × (HasSeen before found.HandedOut after ⊎ HasSeen before (found.Put (length batch.pieces)) after)

-- The cause of a result of `enter`: a job of the hand's site whose job index this call took, or the result of a look of this
-- call under the lock. The result is `Nothing` only if this call found the deque bare, and a look of this call found the pool
-- handed out, or without anything left.
abbrev pub Reports : {R : Type 0} → PoolHand R → Next Work → PoolHand R → Type 0
Reports before (Run (Begin job)) after =
    ((job.site ≡ before.shared.now.site)
    × HasTaken before.home before.level (code_of job) before.rows.now after.rows.now)
    ⊎ Sees before.looks found.Work after.looks
Reports before (Run (Ready context)) after = Sees before.looks found.Work after.looks
Reports before (Lend site) after = Sees before.looks found.Work after.looks
Reports before Nothing after =
    IsFoundBare before.home before.level before.rows.now after.rows.now
    × (Sees before.looks found.HandedOut after.looks ⊎ Sees before.looks found.NoneLeft after.looks)

-- The call `enter` of a hand pushes nothing onto the deques, and its result has its cause.
pub record AnswersHand {R : Type 0} (before : PoolHand R) (next : Next Work)
    (after : PoolHand R) : Type 0 where
  pub same : IsSame before after
  pub keeps : Keeps before.rows.now after.rows.now
  pub reports : Reports before next after

-- The call `offer` pushes job indices for a pool that wasn't handed out, the last piece first, no piece twice.
pub record Offers {R : Type 0} (before after : PoolHand R) : Type 0 where
  pub same : IsSame before after
  pub offers :
      (Sees before.looks found.HandedOut after.looks × (after.rows.now ≡ before.rows.now))
      ⊎ (Sees before.looks found.Work after.looks
      × (places : List ℕ) × IsFalling (length before.shared.now.jobs) 0 places
      × PushesCodes before.shared.now.site before.level places before.rows.now after.rows.now)
