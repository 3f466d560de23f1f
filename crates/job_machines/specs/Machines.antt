-- Machines that run jobs on one hart: the accounts of the sites at each point of a machine's run.
use Rattle.std.specs.Prelude.{◌≡◌, ℕ, ◌-◌, List, [], Some}
use Rattle.transfer_table.specs.Plan.{Plan, IsPlan}
use Rattle.transfer_table.specs.Table.{TableState}
use Rattle.transfer_table.specs.Journal.{Reaches, IsComplete}
use Rattle.transfer_table.specs.declared.entry.Entry.{Entry}
use Rattle.transfer_table.specs.Accounts.{AreFresh, HasGrown, KeepsOutside, IsSpan}
use Rattle.transfer_table.specs.AccountLaws.{IsSkippedSpan}
use Rattle.array_tree.specs.Trees.{ProgramTree}
use Rattle.array_meaning.specs.Stores.{arrays_of}
use Rattle.array_meaning.specs.Plans.{plan_of, statement_sites_in}
use Rattle.array_meaning.specs.Entered.{entered_of, statement_entered}
use Rattle.entered_laws.specs.Meant.{HasPartFrom}
use Rattle.array_jobs.specs.Works.{sites_of}
use Rattle.array_jobs.specs.Jobs.{JobParts, JobTree, job_of}
use Rattle.array_jobs.specs.Bodies.{body_of}
use Rattle.step_eval.specs.declared.stage.Stage.TheVariants.{Going}
use Rattle.step_eval.specs.Machines.{Progress, HasMoved, RunsTo, fresh_machine, next_nest, next_pass}
use Rattle.step_eval.specs.Nests.{NestedTree}
use Rattle.job_machines.specs.Planned.{work_parents}
use Rattle.job_machines.specs.Parts.{AreParts, IsConstructPart}
use Rattle.job_machines.specs.Entering.{work_entered}
use Rattle.job_machines.specs.Piece.{IsAccounted, IsRunConstruct}
use Rattle.job_machines.specs.Constructs.{IsOverJob}

-- The sites of a job are fresh, and whole subtrees inside the site around.
pub record IsFreshJob (p : Plan) (around : ℕ) (es : List Entry) (job : JobTree) : Type 0 where
  pub part : HasPartFrom p around job.first (work_parents job.work around job.first)
  pub fresh : AreFresh p es job.first (sites_of job.work)

-- Between these entries the job has run: its sites have ended as it enters them, and no other site was touched.
pub record IsRunJob (p : Plan) (before after : List Entry) (job : JobTree) : Type 0 where
  pub over : IsOverJob p after (arrays_of job.arrays) job
  pub grown : HasGrown p before after
  pub outside : KeepsOutside p before after job.first (sites_of job.work)

-- The sites of a construct are fresh. Its own is inside the site around, and those inside it follow.
pub record IsFreshConstruct (p : Plan) (around : ℕ) (es : List Entry) (nested : NestedTree)
    : Type 0 where
  pub part : IsConstructPart p around nested.site nested.construct
  pub fresh : AreFresh p es nested.site (statement_sites_in nested.construct)

-- Between these entries the construct has run.
abbrev pub IsRunNested : Plan → List Entry → List Entry → NestedTree → Type 0
IsRunNested p before after nested =
    IsRunConstruct p before after nested.site (statement_sites_in nested.construct)
    (statement_entered (arrays_of nested.arrays) nested.construct nested.vars nested.store)

-- The account of a machine that began its job with the entries `start`.
abbrev pub HasAccount : Plan → List Entry → List Entry → Progress → Type 0
HasAccount p start es m =
    let job = job_of m.job in
    let arrays = arrays_of job.arrays in
    IsAccounted p start es arrays job.first (work_entered arrays job.work job.vars job.store) m.rest
    m.store.cells m.next

-- A machine that began its job with the entries `start` has a right account at the entries `es`.
pub record IsGoing (p : Plan) (around : ℕ) (start es : List Entry) (m : Progress) : Type 0 where
  pub parts : AreParts p around m.next m.rest
  pub account : HasAccount p start es m

-- The same for a machine before a construct that it has handed out.
pub record IsWaiting (p : Plan) (around : ℕ) (start es : List Entry) (nested : NestedTree)
    (m : Progress) : Type 0 where
  pub next : next_nest m ≡ Some nested
  pub going : IsGoing p around start es m

-- A machine that is made of a job begins with fresh sites.
abbrev pub MachinesBegin : Type 0
MachinesBegin = (p : Plan) (around : ℕ) (es : List Entry) (job : JobParts)
    → IsFreshJob p around es (job_of job) → IsGoing p around es es (fresh_machine job)

-- While there is no event for the hart, no entry is made, and the account is kept.
abbrev pub MachinesRunOn : Type 0
MachinesRunOn = (p : Plan) (around : ℕ) (start es : List Entry) (m m' : Progress) → RunsTo m m'
    → IsGoing p around start es m → IsGoing p around start es m'

-- A machine that comes to a construct waits for it, and the construct's sites are fresh.
abbrev pub MachinesWait : Type 0
MachinesWait = (p : Plan) (around : ℕ) (start es : List Entry) (nested : NestedTree) (m : Progress)
    → IsPlan p → IsGoing p around start es (record m { stage = Going }) → next_nest m ≡ Some nested
    → IsWaiting p around start es nested m × IsFreshConstruct p around es nested

-- The sites that the hart has to skip are whole subtrees inside the site around, and fresh. Once they are skipped, the machine,
-- which has begun the `if`, has a right account.
abbrev pub MachinesPass : Type 0
MachinesPass = (p : Plan) (around : ℕ) (start es : List Entry) (first end : ℕ) (m m' : Progress)
    → IsGoing p around start es m → next_pass m ≡ Some (first, end) → HasMoved m.rest m m'
    → IsSpan p around first (end - first)
    × AreFresh p es first (end - first)
    × ((es' : List Entry) → IsSkippedSpan p es es' first (end - first)
    → IsGoing p around start es' m')

-- Once the construct for which it waits has run, a machine goes on after it.
abbrev pub MachinesGoOn : Type 0
MachinesGoOn = (p : Plan) (around : ℕ) (start es es' : List Entry) (nested : NestedTree)
    (m m' : Progress)
    → IsWaiting p around start es nested m → IsRunNested p es es' nested → HasMoved m.rest m m'
    → IsGoing p around start es' m'

-- A machine without remaining works has run its job.
abbrev pub MachinesFinish : Type 0
MachinesFinish = (p : Plan) (around : ℕ) (start es : List Entry) (m : Progress)
    → IsGoing p around start es m → m.rest ≡ [] → IsRunJob p start es (job_of m.job)

-- Before the first entry, the sites of a program's body are fresh. The body is a job inside the base.
abbrev pub BodiesAreFresh : Type 0
BodiesAreFresh = (program : ProgramTree) (p : Plan) → p.parents ≡ plan_of program
    → IsFreshJob p 0 [] (body_of program)

-- When the body has run, the entries are complete: every site is gone, and the registered sites are those that the meaning
-- enters.
abbrev pub BodiesAreRun : Type 0
BodiesAreRun = (program : ProgramTree) (p : Plan) (es : List Entry) (t : TableState)
    → p.parents ≡ plan_of program → IsPlan p → Reaches p es t → IsRunJob p [] es (body_of program)
    → IsComplete p (entered_of program) es
