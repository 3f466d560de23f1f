-- The account of sites that a single hart keeps: its entries for the jobs that a scheduler handed out.
use Rattle.std.specs.Prelude.{◌≡◌, ◌⊎◌, ℕ, suc, true, List, slice_get, Some}
use Rattle.transfer_table.specs.Plan.{Plan, IsPlan}
use Rattle.transfer_table.specs.declared.entry.Entry.{Entry}
use Rattle.array_jobs.specs.Jobs.{JobParts}
use Rattle.join_book.specs.Books.{HasFailed}
use Rattle.step_eval.specs.Nests.{NestedParts, nested_of}
use Rattle.forkjoin_sched.specs.Pools.{PoolParts}
use Rattle.step_eval.specs.declared.work.Work.TheVariants.{Begin}
use Rattle.loop_team.specs.Teams.{TeamParts, AreJobsIn, phases_in}
use Rattle.sched_api.specs.declared.scheduler.Next.{Next}
use Rattle.hart_work.specs.Sites.{SiteFacts, Gives}
use Rattle.job_machines.specs.Accounts.{is_fresh_job}
use Rattle.job_machines.specs.Orders.{HasServed}
use Rattle.lone_hart.specs.Accounts.{Stands}
use Rattle.lone_hart.specs.Sites.{IsPoolOf, construct_in, jobs_left, IsSettledSite, IsOwed, IsOverSite}
use Rattle.lone_hart.specs.declared.site.LoneSite.{LoneSite}
use Rattle.lone_hart.specs.declared.site.LoneSite.TheVariants.{Base, Pool, Team}

-- The jobs that the pool handed out have run, one after another.
pub record ServesPool (p : Plan) (around : ℕ) (start es : List Entry) (nested : NestedParts)
    (pool : PoolParts) : Type 0 where
  pub done : ℕ
  pub of : IsPoolOf nested pool
  pub stands : Stands Begin pool.book pool.agenda done done
  pub served : HasServed p around start es (nested_of nested) 0 done

-- The jobs that the pool handed out have run, except this one, which it handed out last.
pub record LendsJob (p : Plan) (around : ℕ) (start es : List Entry) (nested : NestedParts)
    (pool : PoolParts) (job : JobParts) : Type 0 where
  pub done : ℕ
  pub own : slice_get pool.book.jobs done ≡ Some job
  pub of : IsPoolOf nested pool
  pub stands : Stands Begin pool.book pool.agenda done (suc done)
  pub served : HasServed p around start es (nested_of nested) 0 done

-- The jobs of the opened phases have run, and those of the next phase that the team handed out.
pub record ServesPhase (p : Plan) (around : ℕ) (start es : List Entry) (t : TeamParts) : Type 0 where
  pub jobs : AreJobsIn t.nested t.opened t.barrier.jobs
  pub done : ℕ
  pub stands : Stands Begin t.barrier t.agenda done done
  pub served : HasServed p around start es (nested_of t.nested) t.opened done

-- All phases of the team have run.
pub record ServedPhases (p : Plan) (around : ℕ) (start es : List Entry) (t : TeamParts) : Type 0 where
  pub last : t.opened ≡ phases_in t.nested
  pub served : HasServed p around start es (nested_of t.nested) t.opened 0

-- The jobs of the opened phases have run, and those of the next phase that the team handed out, except this one.
pub record LendsMember (p : Plan) (around : ℕ) (start es : List Entry) (t : TeamParts)
    (job : JobParts) : Type 0 where
  pub jobs : AreJobsIn t.nested t.opened t.barrier.jobs
  pub done : ℕ
  pub own : slice_get t.barrier.jobs done ≡ Some job
  pub stands : Stands Begin t.barrier t.agenda done (suc done)
  pub served : HasServed p around start es (nested_of t.nested) t.opened done

-- A pool without a failed job was served in this way.
abbrev pub serves_pool : NestedParts → PoolParts → Plan → ℕ → List Entry → List Entry → Type 0
serves_pool nested pool p around start es =
    HasFailed pool.book ⊎ ServesPool p around start es nested pool

-- A team without a failed job was served in this way.
abbrev pub serves_team : TeamParts → Plan → ℕ → List Entry → List Entry → Type 0
serves_team t p around start es =
    (t.failed ≡ true) ⊎ (ServedPhases p around start es t ⊎ ServesPhase p around start es t)

-- Between these entries, the jobs of the site that came back have run; nothing is stated if one failed. The base hands out no
-- job.
abbrev pub is_serving : LoneSite → Plan → ℕ → List Entry → List Entry → Type 0
is_serving (Base base) p around start es = ⊥
is_serving (Pool nested pool) p around start es = IsPlan p × serves_pool nested pool p around start es
is_serving (Team t) p around start es = IsPlan p × serves_team t p around start es

-- The jobs of the site that came back have run, and this one is out.
abbrev pub is_lent : LoneSite → JobParts → Plan → ℕ → List Entry → List Entry → Type 0
is_lent (Base base) job p around start es = ⊥
is_lent (Pool nested pool) job p around start es =
    IsPlan p × LendsJob p around start es nested pool job
is_lent (Team t) job p around start es = IsPlan p × LendsMember p around start es t job

-- A job of the site came back as a failure.
abbrev pub is_failed : LoneSite → Type 0
is_failed (Base base) = ⊥
is_failed (Pool nested pool) = HasFailed pool.book
is_failed (Team t) = t.failed ≡ true

-- The number of the site.
abbrev pub number_in : LoneSite → ℕ
number_in (Base base) = 0
number_in (Pool nested pool) = pool.site
number_in (Team t) = t.nested.site

-- What contracts see of a site.
abbrev pub lone_facts : SiteFacts LoneSite JobParts NestedParts
lone_facts = record {
  construct = construct_in;
  number = number_in;
  settled = IsSettledSite;
  owed = IsOwed;
  over = IsOverSite;
  failed = is_failed;
  serving = is_serving;
  lent = is_lent;
  left = jobs_left;
}

-- The only hart's next action at a settled site.
abbrev pub GivesLone : LoneSite → Next JobParts → LoneSite → Type 0
GivesLone before next after =
    IsSettledSite before → Gives lone_facts is_fresh_job before next after
