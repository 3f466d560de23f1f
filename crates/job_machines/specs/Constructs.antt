-- The account of a construct: its own site, and the jobs of all its phases.
use Rattle.std.specs.Prelude.{◌≡◌, ℕ, ◌+◌, ◌-◌, ◌<◌, ◌≤◌, ◌⊎◌, List, [], ◌∷◌, ◌++◌}
use Rattle.transfer_table.specs.Plan.{Plan, IsPlan, IsSite}
use Rattle.transfer_table.specs.Entry.{unregisters}
use Rattle.transfer_table.specs.declared.entry.Entry.{Entry}
use Rattle.transfer_table.specs.declared.entry.Entry.TheVariants.{Register, Unregister}
use Rattle.transfer_table.specs.Accounts.{AreOverAs, AreFresh, IsFresh, HasGrown, KeepsOutside}
use Rattle.array_meaning.specs.Stores.{Arrays, HaveCells, arrays_of}
use Rattle.array_meaning.specs.Pieces.{IsMember}
use Rattle.array_meaning.specs.Entered.{statement_entered}
use Rattle.array_meaning.specs.Plans.{statement_sites_in}
use Rattle.array_jobs.specs.Works.{sites_of}
use Rattle.array_jobs.specs.Jobs.{JobTree}
use Rattle.step_eval.specs.Nests.{NestedTree, phases_of, jobs_in, IsFitNest}
use Rattle.step_eval.specs.Phases.{store_before}
use Rattle.job_machines.specs.Entering.{work_entered}
use Rattle.job_machines.specs.Piece.{IsRunConstruct}

-- The sites of a job have ended as it enters them.
abbrev pub IsOverJob : Plan → List Entry → Arrays → JobTree → Type 0
IsOverJob p es arrays job =
    AreOverAs p es job.first (work_entered arrays job.work job.vars job.store)

-- The sites of each job of a phase have ended so, over the store that the earlier phases leave.
abbrev pub IsOverPhase : Plan → List Entry → NestedTree → ℕ → Type 0
IsOverPhase p es nested phase = (job : JobTree)
    → IsMember job (jobs_in nested phase (store_before nested phase))
    → IsOverJob p es (arrays_of nested.arrays) job

-- If the construct's own site came and went, and each phase has ended, the construct's sites have ended as it enters them.
abbrev pub ConstructsAreOver : Type 0
ConstructsAreOver =
    (p : Plan) (es : List Entry) (nested : NestedTree) → HaveCells (arrays_of nested.arrays)
    → IsFitNest nested → 1 ≤ unregisters nested.site es
    → ((phase : ℕ) → phase < phases_of nested.construct → IsOverPhase p es nested phase)
    → AreOverAs p es nested.site
    (statement_entered (arrays_of nested.arrays) nested.construct nested.vars nested.store)

-- The number is a site inside one of these jobs.
abbrev pub IsInside : ℕ → List JobTree → Type 0
IsInside x [] = ⊥
IsInside x (job ∷ more) =
    ((job.first ≤ x) × (x < job.first + sites_of job.work)) ⊎ IsInside x more

-- The sites of the job, if it has any, are some of the n from s on.
abbrev pub LiesIn : ℕ → ℕ → JobTree → Type 0
LiesIn s n job = 0 < sites_of job.work → (s ≤ job.first) × (job.first + sites_of job.work ≤ s + n)

-- Of n sites from s on, those inside the jobs that are done have ended, and the others are fresh.
pub record IsServed (p : Plan) (start es : List Entry) (arrays : Arrays) (s n : ℕ)
    (done : List JobTree) : Type 0 where
  pub over : (job : JobTree) → IsMember job done → IsOverJob p es arrays job
  pub fresh : (x : ℕ) → IsSite p x → s ≤ x → x < s + n → IsFresh p es x ⊎ IsInside x done
  pub grown : HasGrown p start es
  pub outside : KeepsOutside p start es s n

-- Fresh sites are served so, with no job done.
abbrev pub ServingBegins : Type 0
ServingBegins = (p : Plan) (es : List Entry) (arrays : Arrays) (s n : ℕ) → AreFresh p es s n
    → IsServed p es es arrays s n []

-- The sites of a job that is not done, and has none of the done jobs' sites, are fresh.
abbrev pub OtherJobsAreFresh : Type 0
OtherJobsAreFresh =
    (p : Plan) (start es : List Entry) (arrays : Arrays) (s n : ℕ) (done : List JobTree)
    (job : JobTree) → IsServed p start es arrays s n done
    → LiesIn s n job
    → ((x : ℕ) → job.first ≤ x → x < job.first + sites_of job.work → IsInside x done → ⊥)
    → AreFresh p es job.first (sites_of job.work)

-- When that job has run, it is done.
abbrev pub ServingGoesOn : Type 0
ServingGoesOn =
    (p : Plan) (start es es' : List Entry) (arrays : Arrays) (s n : ℕ) (done : List JobTree)
    (job : JobTree) → IsServed p start es arrays s n done
    → LiesIn s n job
    → IsOverJob p es' arrays job → HasGrown p es es'
    → KeepsOutside p es es' job.first (sites_of job.work)
    → IsServed p start es' arrays s n (job ∷ done)

-- A construct with fresh sites was registered, served until each job of its phases was done, and unregistered: its sites have
-- ended as it enters them, and no other site was touched.
abbrev pub ServedConstructsAreRun : Type 0
ServedConstructsAreRun =
    (p : Plan) (before es : List Entry) (hart : ℕ) (nested : NestedTree) (done : List JobTree) →
    let arrays = arrays_of nested.arrays in
    let s = nested.site in
    let n = statement_sites_in nested.construct in
    IsPlan p → HaveCells arrays → IsFitNest nested → 1 ≤ n
    → IsServed p (before ++ Register hart s ∷ []) es arrays (s + 1) (n - 1) done
    → ((phase : ℕ) → phase < phases_of nested.construct → (job : JobTree)
    → IsMember job (jobs_in nested phase (store_before nested phase)) → IsMember job done)
    → IsRunConstruct p before (es ++ Unregister hart s ∷ []) s n
    (statement_entered arrays nested.construct nested.vars nested.store)

-- The job is a job of one of the construct's phases.
pub record IsJobOf (nested : NestedTree) (job : JobTree) : Type 0 where
  pub phase : ℕ
  pub small : phase < phases_of nested.construct
  pub one : IsMember job (jobs_in nested phase (store_before nested phase))

-- The sites of a job lie inside the construct, and no other job has one of them.
pub record HasOwnSites (nested : NestedTree) (job : JobTree) : Type 0 where
  pub inside : LiesIn (nested.site + 1) (statement_sites_in nested.construct - 1) job
  pub alone : (other : JobTree) (x : ℕ) → IsJobOf nested other
      → job.first ≤ x → x < job.first + sites_of job.work
      → other.first ≤ x → x < other.first + sites_of other.work
      → other ≡ job

-- Each job of a fit construct has sites of its own.
abbrev pub JobsHaveOwnSites : Type 0
JobsHaveOwnSites = (nested : NestedTree) → IsFitNest nested → (job : JobTree) → IsJobOf nested job
    → HasOwnSites nested job

-- So while a construct is served, the sites of each job that isn't done are fresh.
abbrev pub JobsNotDoneAreFresh : Type 0
JobsNotDoneAreFresh =
    (p : Plan) (start es : List Entry) (nested : NestedTree) (done : List JobTree) (job : JobTree) →
    IsFitNest nested
    → IsServed p start es (arrays_of nested.arrays) (nested.site + 1)
    (statement_sites_in nested.construct - 1) done
    → ((other : JobTree) → IsMember other done → IsJobOf nested other)
    → IsJobOf nested job → (IsMember job done → ⊥)
    → AreFresh p es job.first (sites_of job.work)
