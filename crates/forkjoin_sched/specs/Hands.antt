-- The calls of a hart's hand on a shared pool. A look is one read of the pool under its lock.
use Rattle.std.specs.Prelude.{◌≡◌, ◌⊎◌, ℕ, ◌+◌, ◌-◌, ◌*◌, ◌<◌, ◌≤◌, List, [], ◌∷◌, ◌++◌, length, map, slice_set, slice_index, Option, Some, None}
use Rattle.array_jobs.specs.Jobs.{JobParts}
use Rattle.sched_api.specs.declared.scheduler.Next.{Next}
use Rattle.sched_api.specs.declared.scheduler.Next.TheVariants.{Run, Lend, Nothing}
use Rattle.deque_rows.specs.declared.account.Log.{Log}
use Rattle.deque_rows.specs.declared.hart.HartRows.{HartRows}
use Rattle.deque_rows.specs.Account.{HeldAtMost, Rose, after_push}
use Rattle.deque_rows.specs.Rows.{identity, home_logs, pass_logs, bares, home_log, pass_log, bare}
use Rattle.sched_api.specs.Agenda.{GivesReady}
use Rattle.forkjoin_sched.specs.Pools.{PoolParts, Answers, with_agenda}
use Rattle.forkjoin_sched.specs.Batches.{BatchParts, PutsAll, KnowsAfter}
use Rattle.step_eval.specs.declared.work.Work.{Work}
use Rattle.step_eval.specs.declared.work.Work.TheVariants.{Begin, Ready}
use Rattle.forkjoin_sched.specs.declared.looks.Found.{Found}
use Rattle.forkjoin_sched.specs.declared.looks.Found.TheVariants as found
use Rattle.forkjoin_sched.specs.declared.looks.Looks.{Looks}

-- The job index of a site's piece, which deques hold.
abbrev pub code_at : ℕ → ℕ → ℕ
code_at site place = 64 * site + place

-- The job index of a job, made of its site and its index in the phase.
abbrev pub code_of : JobParts → ℕ
code_of job = code_at job.site job.place

-- Under the lock --

-- One more look, with this result.
abbrev pub Sees : Looks → Found → Looks → Type 0
Sees before what after = Rose before.count after.count × (after.last ≡ Some what)

-- The result of a look for work.
abbrev pub found_by : Option PoolParts → Next Work → Found
found_by None next = found.HandedOut
found_by (Some pool) Nothing = found.NoneLeft
found_by (Some pool) (Run work) = found.Work
found_by (Some pool) (Lend site) = found.Work

-- The result of a look that puts so many pieces into the pool.
abbrev pub put_by : Option PoolParts → ℕ → Found
put_by None count = found.HandedOut
put_by (Some pool) count = found.Put count

-- The pool returns what its `enter` does, and a pool that was handed out returns `Nothing`.
abbrev pub AnswersUnder : Option PoolParts → Next Work → Option PoolParts → Type 0
AnswersUnder None next after = (next ≡ Nothing) × (after ≡ None)
AnswersUnder (Some pool) next None = ⊥
AnswersUnder (Some pool) next (Some after) = Answers pool next after

-- The first ready context is taken.
abbrev pub GivesReadyUnder : Option PoolParts → Option Work → Option PoolParts → Type 0
GivesReadyUnder None ready after = (ready ≡ None) × (after ≡ None)
GivesReadyUnder (Some pool) ready None = ⊥
GivesReadyUnder (Some pool) ready (Some after) =
    GivesReady pool.agenda ready after.agenda × (after ≡ with_agenda pool after.agenda)

-- All pieces of the batch are put into the pool's book, and nothing else changes but whether its start is known. A pool that was
-- handed out gets none of them.
abbrev pub HandsOverUnder : BatchParts → Option PoolParts → Option PoolParts → Type 0
HandsOverUnder batch None after = after ≡ None
HandsOverUnder batch (Some pool) None = ⊥
HandsOverUnder batch (Some pool) (Some after) =
    PutsAll batch.pieces pool.book after.book
    × KnowsAfter batch.pieces batch.start pool after.knows_start
    × (after ≡ record pool { book = after.book; knows_start = after.knows_start })

-- The deques --

-- The deques are the same, nothing was pushed onto them, and no counter of empty looks fell.
pub record Keeps (before after : HartRows) : Type 0 where
  pub identity : identity after ≡ identity before
  pub pushed : map (λ (v : Log). v.pushed) (home_logs after)
      ≡ map (λ (v : Log). v.pushed) (home_logs before)
  pub bares : (r : ℕ) → slice_index (bares before) r ≤ slice_index (bares after) r

-- The deque was found bare: its counter of empty looks rose, and what is known of it fits a moment at which it held at most one
-- job index.
abbrev pub IsFoundBare : ℕ → ℕ → HartRows → HartRows → Type 0
IsFoundBare home level before after =
    Rose (bare before home level) (bare after home level) × HeldAtMost 1 (pass_log after home level)

-- The job indices that the hart had popped and stolen from the deque are still popped and stolen, and perhaps more since.
pub record TakesMore (home level : ℕ) (before after : HartRows) : Type 0 where
  pub popped : List ℕ
  pub stolen : List ℕ
  pub pops : (home_log after level).popped ≡ (home_log before level).popped ++ popped
  pub steals : (pass_log after home level).stolen ≡ (pass_log before home level).stolen ++ stolen

-- The last job index that was taken from the home's deque since is this one: popped, if the hart is the home, or stolen.
abbrev pub HasTaken : ℕ → ℕ → ℕ → HartRows → HartRows → Type 0
HasTaken home level code before after =
    ((home ≡ before.hart) × (earlier : List ℕ) × ((home_log after level).popped
    ≡ ((home_log before level).popped ++ earlier) ++ code ∷ []))
    ⊎ ((earlier : List ℕ) × ((pass_log after home level).stolen
    ≡ ((pass_log before home level).stolen ++ earlier) ++ code ∷ []))

-- A job index of the deque, or none, and the deque was found bare.
abbrev pub TakesCode : ℕ → ℕ → HartRows → Option ℕ → HartRows → Type 0
TakesCode home level before (Some code) after = HasTaken home level code before after
TakesCode home level before None after = IsFoundBare home level before after

-- A job of the site whose job index was taken, or none, and the deque was found bare.
abbrev pub TakesPiece : ℕ → ℕ → ℕ → HartRows → Option JobParts → HartRows → Type 0
TakesPiece site home level before (Some job) after =
    (job.site ≡ site) × HasTaken home level (code_of job) before after
TakesPiece site home level before None after = IsFoundBare home level before after

-- The indices fall, each of them below n and none below `least`.
abbrev pub IsFalling : ℕ → ℕ → List ℕ → Type 0
IsFalling n least [] = least ≤ n
IsFalling n least (place ∷ places) = (place < n) × IsFalling place least places

-- The job indices of these pieces of the site are pushed, in this order, and nothing else is done.
pub record PushesCodes (site level : ℕ) (places : List ℕ) (before after : HartRows) : Type 0 where
  pub identity : identity after ≡ identity before
  pub own : home_logs after ≡ slice_set (home_logs before) (level - 1)
      (after_push (home_log before level) (map (code_at site) places))
  pub passes : pass_logs after ≡ pass_logs before
  pub bares : bares after ≡ bares before

-- The jobs are those from some index on to the one before n, in order.
abbrev pub RunsTo : ℕ → List Work → Type 0
RunsTo n [] = Unit {0}
RunsTo n (Begin job ∷ works) = (job.place + length works + 1 ≡ n) × RunsTo n works
RunsTo n (Ready context ∷ works) = ⊥

-- Jobs that are not begun leave a pool, and the job index of each is pushed, the last piece first. If they are the last of n
-- jobs, all leave it.
pub record OffersJobs (site level n : ℕ) (pool : PoolParts) (rows : HartRows) (places : List ℕ)
    (pool' : PoolParts) (rows' : HartRows) : Type 0 where
  pub falling : IsFalling n 0 places
  pub pushes : PushesCodes site level places rows rows'
  pub rest : pool' ≡ with_agenda pool (record pool.agenda { unbegun = pool'.agenda.unbegun })
  pub each : length pool.agenda.unbegun ≡ length pool'.agenda.unbegun + length places
  pub all : RunsTo n pool.agenda.unbegun → pool'.agenda.unbegun ≡ []

-- One more look, in which the jobs of a pool that wasn't handed out are offered.
abbrev pub OffersUnder : ℕ → ℕ → ℕ → Looks × Option PoolParts × HartRows
    → Looks × Option PoolParts × HartRows → Type 0
OffersUnder site level n (looks, None, rows) (looks', kept', rows') =
    Sees looks found.HandedOut looks' × (kept' ≡ None) × (rows' ≡ rows)
OffersUnder site level n (looks, Some pool, rows) (looks', None, rows') = ⊥
OffersUnder site level n (looks, Some pool, rows) (looks', Some pool', rows') =
    Sees looks found.Work looks' × (places : List ℕ)
    × OffersJobs site level n pool rows places pool' rows'
