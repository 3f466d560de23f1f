-- One hart runs the jobs of a construct phase after phase, and within a phase in the order of their indices.
use Rattle.std.specs.Prelude.{◌≡◌, ℕ, zero, suc, ◌+◌, ◌<◌, ◌≤◌, List, [], ◌∷◌, ◌++◌, length, Option, None, Some, slice_get}
use Rattle.transfer_table.specs.Plan.{Plan, IsPlan, IsSite, parent}
use Rattle.transfer_table.specs.Entry.{unregisters, skips_over}
use Rattle.transfer_table.specs.declared.entry.Entry.{Entry}
use Rattle.transfer_table.specs.declared.entry.Entry.TheVariants.{Register, Unregister}
use Rattle.array_jobs.specs.Jobs.{JobTree}
use Rattle.step_eval.specs.Nests.{NestedTree, phases_of, jobs_in, IsFitNest}
use Rattle.step_eval.specs.Phases.{store_before}
use Rattle.job_machines.specs.Parts.{IsConstructPart}
use Rattle.job_machines.specs.Machines.{IsFreshJob, IsRunJob, IsFreshConstruct, IsRunNested}
use Rattle.job_machines.specs.Serving.{IsServing}

-- The job, if there is one, before the other done jobs.
abbrev pub with_job : Option JobTree → List JobTree → List JobTree
with_job None done = done
with_job (Some job) done = job ∷ done

-- The first so many of these jobs, the last one first, followed by those before.
abbrev pub upto : List JobTree → List JobTree → ℕ → List JobTree
upto before jobs zero = before
upto before jobs (suc k) = with_job (slice_get jobs k) (upto before jobs k)

-- The jobs of a phase, over the store that the earlier phases leave.
abbrev pub phase_jobs : NestedTree → ℕ → List JobTree
phase_jobs nested phase = jobs_in nested phase (store_before nested phase)

-- All jobs of the phases before this one.
abbrev pub jobs_before : NestedTree → ℕ → List JobTree
jobs_before nested zero = []
jobs_before nested (suc phase) =
    upto (jobs_before nested phase) (phase_jobs nested phase) (length (phase_jobs nested phase))

-- All jobs of the phases before this one, and the first so many of this one.
abbrev pub done_at : NestedTree → ℕ → ℕ → List JobTree
done_at nested phase k = upto (jobs_before nested phase) (phase_jobs nested phase) k

-- A construct is served at its site: all phases before this one and so many jobs of this one have run since the entries
-- `start`, the last of which registered it.
pub record HasServed (p : Plan) (around : ℕ) (start es : List Entry) (nested : NestedTree)
    (phase k : ℕ) : Type 0 where
  pub outer : ℕ
  pub part : IsConstructPart p outer nested.site nested.construct
  pub here : around ≡ nested.site
  pub fit : IsFitNest nested
  pub served : IsServing p start es nested (done_at nested phase k)

-- A construct with fresh sites is registered, and none of its jobs has run.
abbrev pub ServingStarts : Type 0
ServingStarts = (p : Plan) (outer : ℕ) (es : List Entry) (hart : ℕ) (nested : NestedTree)
    → IsPlan p → IsFitNest nested → IsFreshConstruct p outer es nested →
    let start = es ++ Register hart nested.site ∷ [] in
    HasServed p nested.site start start nested 0 0

-- The sites of the job whose turn it is are fresh.
abbrev pub NextJobsAreFresh : Type 0
NextJobsAreFresh = (p : Plan) (around : ℕ) (start es : List Entry) (nested : NestedTree)
    (phase k : ℕ) (job : JobTree)
    → phase < phases_of nested.construct → slice_get (phase_jobs nested phase) k ≡ Some job
    → HasServed p around start es nested phase k → IsFreshJob p around es job

-- When that job has run, it is the turn of the job after it.
abbrev pub NextJobsAreDone : Type 0
NextJobsAreDone = (p : Plan) (around : ℕ) (start es es' : List Entry) (nested : NestedTree)
    (phase k : ℕ) (job : JobTree)
    → phase < phases_of nested.construct → slice_get (phase_jobs nested phase) k ≡ Some job
    → HasServed p around start es nested phase k → IsRunJob p es es' job
    → HasServed p around start es' nested phase (suc k)

-- After the last job of a phase comes the next phase.
abbrev pub PhasesTurn : Type 0
PhasesTurn = (p : Plan) (around : ℕ) (start es : List Entry) (nested : NestedTree) (phase k : ℕ)
    → length (phase_jobs nested phase) ≤ k → HasServed p around start es nested phase k
    → HasServed p around start es nested (suc phase) 0

-- After the last phase, each child of the construct's site is gone or skipped, so the site may be unregistered.
abbrev pub ServedHaveEnded : Type 0
ServedHaveEnded = (p : Plan) (around : ℕ) (start es : List Entry) (nested : NestedTree)
    → IsPlan p → HasServed p around start es nested (phases_of nested.construct) 0
    → (c : ℕ) → IsSite p c → parent p c ≡ around → 1 ≤ unregisters c es + skips_over p c es

-- With the unregister, the construct has run.
abbrev pub ServedAreRun : Type 0
ServedAreRun = (p : Plan) (before es : List Entry) (hart : ℕ) (nested : NestedTree)
    → IsPlan p
    → HasServed p nested.site (before ++ Register hart nested.site ∷ []) es nested
    (phases_of nested.construct) 0
    → IsRunNested p before (es ++ Unregister hart nested.site ∷ []) nested
