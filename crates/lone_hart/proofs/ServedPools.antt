-- The account of a pool's sites, as the only hart serves the pool.
use Rattle.std.proofs.Common.{◌≡◌, ℕ, suc, ◌<◌, ◌≤◌, List, length, map, slice_get, Some, refl, sym, ap, ◌∙◌, ◌⊎◌, subst, inl, inr, arith}
use Rattle.std.proofs.lemmas.List.{length-map}
use Rattle.transfer_table.specs.Plan.{Plan}
use Rattle.transfer_table.specs.declared.entry.Entry.{Entry}
use Rattle.array_tree.specs.Trees.{statement_of}
use Rattle.array_jobs.specs.Jobs.{JobParts, job_of}
use Rattle.join_book.specs.Books.{BookParts, Filled, Open, IsFull, HasFailed, marked_book}
use Rattle.sched_api.specs.declared.scheduler.Next.TheVariants.{Run, Nothing}
use Rattle.sched_api.specs.Wishes.{WishList}
use Rattle.sched_api.specs.Agenda.{AgendaParts, TakesNext}
use Rattle.step_eval.specs.Nests.{NestedParts, nested_of, phases_of}
use Rattle.forkjoin_sched.specs.Pools.{PoolParts}
use Rattle.step_eval.specs.declared.work.Work.{Work}
use Rattle.step_eval.specs.declared.work.Work.TheVariants.{Begin, Ready}
use Rattle.job_machines.specs.Machines.{IsFreshJob, IsRunJob}
use Rattle.job_machines.specs.Orders.{HasServed}
use Rattle.job_machines.proofs.Orders.{next_jobs_are_fresh, next_jobs_are_done, phases_turn}
use Rattle.lone_hart.specs.Accounts.{Stands, AllButOneCameBack}
use Rattle.lone_hart.specs.Sites.{IsPoolOf}
use Rattle.lone_hart.specs.Served.{ServesPool, LendsJob, GivesLone}
use Rattle.lone_hart.specs.declared.site.LoneSite.TheVariants.{Pool}
use Rattle.lone_hart.proofs.Accounts.{IsOneToOne, handed, hand_out, hand_out_less, came_back, all_back, seen_job, heard}

pub one_to_one : IsOneToOne Begin
one_to_one a b e = ap (λ (w : Work). job_or a w) e
  where
    job_or : JobParts → Work → JobParts
    job_or j (Begin job) = job
    job_or j (Ready c) = j

filled_open : Filled ≡ Open → ⊥
filled_open e = cc

-- A pool with the same jobs is a pool of the same construct.
pub pool_of : (nested : NestedParts) (before after : PoolParts) → after.book.jobs ≡ before.book.jobs → IsPoolOf nested before → IsPoolOf nested after
pool_of nested before after same of = record { fit = of.fit; one_phase = of.one_phase; jobs = ap (map job_of) same ∙ of.jobs }

-- A construct has a phase.
zero_phase : (nested : NestedParts) (pool : PoolParts) → IsPoolOf nested pool → 0 < phases_of (statement_of nested.construct)
zero_phase nested pool of = let one = of.one_phase in omega (arith, one)

pub pool_lends : (p : Plan) (around : ℕ) (start es : List Entry) (nested : NestedParts) (before after : PoolParts) (job : JobParts) → ServesPool p around start es nested before
    → TakesNext before.agenda (Run (Begin job)) after.agenda → after.book ≡ before.book → LendsJob p around start es nested after job × IsFreshJob p around es (job_of job)
pool_lends p around start es nested before after job serves taken same =
    let k = serves.done in
    let next = handed Begin one_to_one before.book before.agenda after.agenda job k serves.stands taken in (
      record {
        done = k;
        own = subst (λ (b : BookParts). slice_get b.jobs k ≡ Some job) (sym same) next.0;
        of = pool_of nested before after (ap (λ (b : BookParts). b.jobs) same) serves.of;
        stands = subst (λ (b : BookParts). Stands Begin b after.agenda k (suc k)) (sym same) next.1;
        served = serves.served;
      },
      next_jobs_are_fresh p around start es (nested_of nested) 0 k (job_of job) (zero_phase nested before serves.of) (seen_job before.book.jobs _ k job serves.of.jobs next.0) serves.served,
    )

-- A pool that is full or failed gives nothing. Otherwise it gives its next job.
pub pool_rests : (nested : NestedParts) (pool : PoolParts) → IsFull pool.book ⊎ HasFailed pool.book → GivesLone (Pool nested pool) Nothing (Pool nested pool)
pool_rests nested pool done settled =
    record { construct = refl; left = omega arith; account = settled; over = λ is home. (settled.0, done); served = λ p around start es serving. serving }

pub pool_gives : (nested : NestedParts) (before after : PoolParts) (job : JobParts) → ¬ HasFailed before.book → TakesNext before.agenda (Run (Begin job)) after.agenda → after.book ≡ before.book →
    GivesLone (Pool nested before) (Run job) (Pool nested after)
pool_gives nested before after job well taken same settled = record {
  construct = refl;
  left = hand_out_less (Begin job) before.agenda after.agenda settled.1.1.none_ready taken;
  account = (
    pool_of nested before after (ap (λ (b : BookParts). b.jobs) same) settled.0,
    subst (λ (b : BookParts). AllButOneCameBack Begin b after.agenda job) (sym same) (hand_out Begin one_to_one before.book before.agenda after.agenda job settled.1 taken),
  );
  over = λ is. absurd (goes_on is);
  served = λ p around start es serving. elim serving.1 [
    | inl failed ↦ absurd (well failed)
    | inr serves ↦ let lends = pool_lends p around start es nested before after job serves taken same in ((serving.0, lends.0), (serving.0, lends.1))
  ];
}
  where
    goes_on : Run job ≡ Nothing → ⊥
    goes_on e = cc

pub pool_keeps : (p : Plan) (around : ℕ) (start es es' : List Entry) (nested : NestedParts) (before after : PoolParts) (job : JobParts) → LendsJob p around start es nested before job
    → IsRunJob p es es' (job_of job) → after.book ≡ marked_book before.book job.place Filled → after.agenda ≡ before.agenda → ServesPool p around start es' nested after
pool_keeps p around start es es' nested before after job lends ran book agenda =
    let k = lends.done in
    let there : job.place ≡ k = lends.stands.own k job lends.own in
    let is : after.book ≡ marked_book before.book k Filled = subst (λ i. after.book ≡ marked_book before.book i Filled) there book in
    record {
      done = suc k;
      of = pool_of nested before after (ap (λ (b : BookParts). b.jobs) is) lends.of;
      stands = subst (λ (b : BookParts). Stands Begin b after.agenda (suc k) (suc k)) (sym is)
          (subst (λ (a : AgendaParts Work). Stands Begin (marked_book before.book k Filled) a (suc k) (suc k)) (sym agenda) (came_back Begin before.book before.agenda k Filled filled_open lends.stands));
      served = next_jobs_are_done p around start es es' (nested_of nested) 0 k (job_of job) (zero_phase nested before lends.of) (seen_job before.book.jobs _ k job lends.of.jobs lends.own) lends.served ran;
    }

-- If the book is full, the construct's only phase was run.
pub pool_ends : (p : Plan) (around : ℕ) (start es : List Entry) (nested : NestedParts) (pool : PoolParts) → ServesPool p around start es nested pool → IsFull pool.book →
    HasServed p around start es (nested_of nested) (phases_of (statement_of nested.construct)) 0
pool_ends p around start es nested pool serves full =
    let k = serves.done in
    let back = all_back Begin pool.book pool.agenda k k serves.stands full in
    let size = sym (length-map pool.book.jobs job_of) ∙ ap length serves.of.jobs in
    subst (λ n. HasServed p around start es (nested_of nested) n 0) (sym serves.of.one_phase) (phases_turn p around start es (nested_of nested) 0 k (subst (λ n. n ≤ k) size back) serves.served)

-- ---- a callback changes only the wishes
pub pool_heard_serving : (p : Plan) (around : ℕ) (start es : List Entry) (nested : NestedParts) (pool : PoolParts) (wishes : WishList) → ServesPool p around start es nested pool →
    ServesPool p around start es nested (record pool { agenda = record pool.agenda { wishes = wishes } })
pool_heard_serving p around start es nested pool wishes serves = record {
  done = serves.done;
  of = pool_of nested pool _ refl serves.of;
  stands = heard Begin pool.book pool.agenda wishes serves.done serves.done serves.stands;
  served = serves.served;
}

pub pool_heard_lent : (p : Plan) (around : ℕ) (start es : List Entry) (nested : NestedParts) (pool : PoolParts) (wishes : WishList) (job : JobParts) → LendsJob p around start es nested pool job →
    LendsJob p around start es nested (record pool { agenda = record pool.agenda { wishes = wishes } }) job
pool_heard_lent p around start es nested pool wishes job lends = record {
  done = lends.done;
  own = lends.own;
  of = pool_of nested pool _ refl lends.of;
  stands = heard Begin pool.book pool.agenda wishes lends.done (suc lends.done) lends.stands;
  served = lends.served;
}
