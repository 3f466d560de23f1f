-- The schedulers of the sites, as the single hart has them.
use Rattle.std.specs.Prelude.{◌≡◌, ◌⊎◌, ℕ, suc, ◌+◌, ◌-◌, ◌*◌, min, length, map, Option, Some, None}
use Rattle.array_tree.specs.Trees.{statement_of}
use Rattle.array_meaning.specs.Plans.{statement_sites_in}
use Rattle.array_jobs.specs.Jobs.{JobParts, job_of}
use Rattle.join_book.specs.Books.{IsFull, HasFailed}
use Rattle.step_eval.specs.Nests.{NestedParts, nested_of, phases_of, jobs_in, IsFitNest}
use Rattle.sched_api.specs.declared.hearing.Told.{Told}
use Rattle.sched_api.specs.declared.agenda.TheConstants.{MOST_WISHES}
use Rattle.base_sched.specs.Oldest as base
use Rattle.forkjoin_sched.specs.Pools as pools
use Rattle.forkjoin_sched.specs.Pools.{PoolParts}
use Rattle.step_eval.specs.declared.work.Work.TheVariants.{Begin}
use Rattle.loop_team.specs.Teams as teams
use Rattle.loop_team.specs.Teams.{TeamParts, phases_in, members_in, IsOver}
use Rattle.lone_hart.specs.Accounts.{AllCameBack, AllButOneCameBack}
use Rattle.lone_hart.specs.declared.site.LoneSite.{LoneSite}
use Rattle.lone_hart.specs.declared.site.LoneSite.TheVariants.{Base, Pool, Team}

-- The site runs this construct; the base runs none.
abbrev pub construct_in : LoneSite → Option NestedParts
construct_in (Base base) = None
construct_in (Pool nested p) = Some nested
construct_in (Team t) = Some t.nested

-- The number of wishes that the sites inside a construct can have: fifteen each, and at most those of a plan's sites.
abbrev pub wishes_inside : NestedParts → ℕ
wishes_inside nested = min (15 * (statement_sites_in (statement_of nested.construct) - 1)) MOST_WISHES

-- The number of jobs that a team still hands out, with those of the later phases.
abbrev pub team_jobs_left : TeamParts → ℕ
team_jobs_left t = length t.agenda.unbegun + (phases_in t.nested - suc t.opened)
    * members_in t.nested

-- The number of jobs that a site still hands out.
abbrev pub jobs_left : LoneSite → ℕ
jobs_left (Base base) = 0
jobs_left (Pool nested p) = length p.agenda.unbegun
jobs_left (Team t) = team_jobs_left t

-- The pool has the jobs of the `par`.
pub record IsPoolOf (nested : NestedParts) (p : PoolParts) : Type 0 where
  pub fit : IsFitNest (nested_of nested)
  pub one_phase : phases_of (statement_of nested.construct) ≡ 1
  pub jobs : map job_of p.book.jobs ≡ jobs_in (nested_of nested) 0 nested.store

-- A team that isn't done waits for a piece, and all jobs that it handed out came back.
pub record IsRunning (t : TeamParts) : Type 0 where
  pub waits : ¬ IsFull t.barrier
  pub account : AllCameBack Begin t.barrier t.agenda

-- Every job that the site handed out came back.
abbrev pub IsSettledSite : LoneSite → Type 0
IsSettledSite (Base base) = Unit {0}
IsSettledSite (Pool nested p) = IsPoolOf nested p × AllCameBack Begin p.book p.agenda
IsSettledSite (Team t) = IsOver t ⊎ IsRunning t

-- Every job that the site handed out came back, except this one. The base hands out no job.
abbrev pub IsOwed : LoneSite → JobParts → Type 0
IsOwed (Base base) job = ⊥
IsOwed (Pool nested p) job = IsPoolOf nested p × AllButOneCameBack Begin p.book p.agenda job
IsOwed (Team t) job = AllButOneCameBack Begin t.barrier t.agenda job

-- The work of the site is done.
abbrev pub IsOverSite : LoneSite → Type 0
IsOverSite (Base base) = Unit {0}
IsOverSite (Pool nested p) = IsPoolOf nested p × (IsFull p.book ⊎ HasFailed p.book)
IsOverSite (Team t) = IsOver t

-- The effect of a callback of the site's scheduler.
abbrev pub HearsAt : LoneSite → Told → LoneSite → Type 0
HearsAt (Base b) told (Base b') = base.HearsOf b told b'
HearsAt (Pool nested p) told (Pool nested' p') = (nested' ≡ nested) × pools.Hears p told p'
HearsAt (Team t) told (Team t') = teams.Hears t told t'
HearsAt before told after = ⊥
