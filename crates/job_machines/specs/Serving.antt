-- Constructs that one hart serves: it registers the construct's site, runs the jobs of all phases, and unregisters the site.
use Rattle.std.specs.Prelude.{◌≡◌, ℕ, ◌+◌, ◌-◌, ◌<◌, ◌≤◌, List, [], ◌∷◌, ◌++◌}
use Rattle.transfer_table.specs.Plan.{Plan, IsPlan, IsSite, parent}
use Rattle.transfer_table.specs.Entry.{unregisters, skips_over}
use Rattle.transfer_table.specs.declared.entry.Entry.{Entry}
use Rattle.transfer_table.specs.declared.entry.Entry.TheVariants.{Register, Unregister}
use Rattle.array_meaning.specs.Stores.{arrays_of}
use Rattle.array_meaning.specs.Plans.{statement_sites_in}
use Rattle.array_meaning.specs.Pieces.{IsMember}
use Rattle.entered_laws.specs.Meant.{HasPartFrom}
use Rattle.array_jobs.specs.Jobs.{JobTree}
use Rattle.step_eval.specs.Nests.{NestedTree, phases_of, jobs_in, IsFitNest}
use Rattle.step_eval.specs.Phases.{store_before}
use Rattle.job_machines.specs.Planned.{inside_parents}
use Rattle.job_machines.specs.Parts.{IsConstructPart}
use Rattle.job_machines.specs.Constructs.{IsServed, IsJobOf}
use Rattle.job_machines.specs.Machines.{IsFreshJob, IsRunJob, IsFreshConstruct, IsRunNested}

-- The last of the entries `start` registered the construct, and these of its jobs have run since.
abbrev pub IsServing : Plan → List Entry → List Entry → NestedTree → List JobTree → Type 0
IsServing p start es nested done =
    IsServed p start es (arrays_of nested.arrays) (nested.site + 1)
    (statement_sites_in nested.construct - 1) done

-- They are jobs of this construct.
abbrev pub AreJobsOf : NestedTree → List JobTree → Type 0
AreJobsOf nested done = (job : JobTree) → IsMember job done → IsJobOf nested job

-- The jobs of all phases are among them.
abbrev pub HaveAllJobs : NestedTree → List JobTree → Type 0
HaveAllJobs nested done = (phase : ℕ) → phase < phases_of nested.construct → (job : JobTree)
    → IsMember job (jobs_in nested phase (store_before nested phase)) → IsMember job done

-- A construct with fresh sites is registered, and none of its jobs has run.
abbrev pub ConstructsOpen : Type 0
ConstructsOpen = (p : Plan) (around : ℕ) (es : List Entry) (hart : ℕ) (nested : NestedTree)
    → IsPlan p → IsFreshConstruct p around es nested →
    let start = es ++ Register hart nested.site ∷ [] in
    IsServing p start start nested []

-- The sites of a job that hasn't run are fresh.
abbrev pub JobsAreFresh : Type 0
JobsAreFresh = (p : Plan) (start es : List Entry) (nested : NestedTree) (done : List JobTree)
    (job : JobTree)
    → IsFitNest nested
    → HasPartFrom p nested.site (nested.site + 1)
    (inside_parents nested.construct nested.site (nested.site + 1))
    → IsServing p start es nested done → AreJobsOf nested done
    → IsJobOf nested job → (IsMember job done → ⊥) → IsFreshJob p nested.site es job

-- When a job has run, it is one more of those that have.
abbrev pub JobsAreDone : Type 0
JobsAreDone = (p : Plan) (start es es' : List Entry) (nested : NestedTree) (done : List JobTree)
    (job : JobTree)
    → IsFitNest nested → IsServing p start es nested done → IsJobOf nested job
    → IsRunJob p es es' job → IsServing p start es' nested (job ∷ done)

-- When all jobs have run, each child of the construct's site is gone or skipped, so the site may be unregistered.
abbrev pub ChildrenHaveEnded : Type 0
ChildrenHaveEnded = (p : Plan) (around : ℕ) (start es : List Entry) (nested : NestedTree)
    (done : List JobTree)
    → IsPlan p → IsFitNest nested → IsConstructPart p around nested.site nested.construct
    → IsServing p start es nested done → HaveAllJobs nested done
    → (c : ℕ) → IsSite p c → parent p c ≡ nested.site → 1 ≤ unregisters c es + skips_over p c es

-- With the unregister, the construct has run.
abbrev pub ConstructsEnd : Type 0
ConstructsEnd = (p : Plan) (before es : List Entry) (hart : ℕ) (nested : NestedTree)
    (done : List JobTree)
    → IsPlan p → IsFitNest nested
    → IsServing p (before ++ Register hart nested.site ∷ []) es nested done
    → HaveAllJobs nested done
    → IsRunNested p before (es ++ Unregister hart nested.site ∷ []) nested
