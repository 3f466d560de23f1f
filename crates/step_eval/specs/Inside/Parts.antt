-- The private parts of a machine, and the calls on them.
-- Only the private contracts and the proofs of this crate need these.
use Rattle.std.specs.Prelude.{◌≡◌, ℕ, ◌≤◌, List, [], Option, Some, None, length}
use Rattle.std.specs.Borrow.{Bor}
use Rattle.contexts.specs.declared.machine.Step.{Step}
use Rattle.contexts.specs.declared.machine.Step.TheVariants as step
use Rattle.array_tree.specs.declared.tree.Stmt.{Stmt}
use Rattle.array_tree.specs.Trees.{Statement, statement_of, declarations_of}
use Rattle.array_meaning.specs.Stores.{Arrays, arrays_of}
use Rattle.array_meaning.specs.Plans.{statement_sites_in}
use Rattle.array_eval.specs.Traces.{Trace}
use Rattle.array_eval.specs.Overlays.{Laid}
use Rattle.site_counts.specs.Capped.{capped}
use Rattle.array_jobs.specs.Jobs.{JobParts, job_of}
use Rattle.step_eval.specs.declared.stage.Stage.{Stage}
use Rattle.step_eval.specs.declared.stage.Stage.TheVariants.{Going, Awaiting, Failed}
use Rattle.step_eval.specs.declared.frames.Frames.{Frames}
use Rattle.step_eval.specs.declared.reported.Reported.{Reported}
use Rattle.step_eval.specs.declared.reported.Reported.TheVariants.{Nothing, Skips}
use Rattle.step_eval.specs.Rest.{WorkAt}
use Rattle.step_eval.specs.declared.found.Found.{Found}
use Rattle.step_eval.specs.declared.found.Found.TheVariants as found
use Rattle.step_eval.specs.Nests.{NestedParts, nested_of}
use Rattle.step_eval.specs.Machines.{Progress, IsKept, next_construct, next_nest, next_pass}
use Rattle.step_eval.specs.Inside.Frames.{works_of, IsStacked, HaveMoved}

-- The invariant of a machine that isn't failed: each loop that has begun has its variable, and there is room for a pair for
-- each cell.
pub record IsWhole (stage : Stage) (job : JobParts) (frames : Frames) (store : Trace) (room : Laid)
    (next : ℕ) : Type 0 where
  pub kept : IsKept stage (job_of job) (works_of frames job.vars) store next
  pub stacked : IsStacked frames
  pub none : room.pairs ≡ []
  pub roomy : length store.cells ≤ room.room

-- The invariant of any machine.
abbrev pub IsSound : Stage → JobParts → Frames → Trace → Laid → ℕ → Type 0
IsSound Going job frames store room next = IsWhole Going job frames store room next
IsSound Awaiting job frames store room next = IsWhole Awaiting job frames store room next
IsSound Failed job frames store room next = Unit {0}

-- The arrays of a machine's layout are those of its job.
abbrev pub IsLayoutOf : Arrays → JobParts → Type 0
IsLayoutOf layout job = layout ≡ arrays_of (declarations_of job.arrays)

-- The progress of a machine that goes on.
abbrev pub while_going : JobParts → List WorkAt → Trace → ℕ → Progress
while_going job rest store next = record {
  job = job;
  rest = rest;
  store = store;
  next = next;
  stage = Going;
}

-- The change of the works, the store and the next site's number by a step in which no allocation failed.
abbrev pub Advanced : Progress → Step Found → List WorkAt → Trace → ℕ → Type 0
Advanced before step.More rest store next =
    (next_nest before ≡ None) × (next_pass before ≡ None)
    × HaveMoved (arrays_of (declarations_of before.job.arrays)) before.rest
    before.store before.next rest store next
Advanced before (step.Nest (found.Pass first end)) rest store next =
    (next_nest before ≡ None) × (next_pass before ≡ Some (first, end))
    × HaveMoved (arrays_of (declarations_of before.job.arrays)) before.rest
    before.store before.next rest store next
Advanced before (step.Nest (found.Nest nested)) rest store next =
    (next_nest before ≡ Some (nested_of nested)) × (rest ≡ before.rest) × (store ≡ before.store)
    × (next ≡ before.next)
Advanced before step.Finished rest store next =
    (before.rest ≡ []) × (rest ≡ before.rest) × (store ≡ before.store) × (next ≡ before.next)
Advanced before step.NoMemory rest store next = ⊥

-- The next construct is handed out.
abbrev pub IsHandedOut : Progress → NestedParts → Type 0
IsHandedOut machine nested = next_nest machine ≡ Some (nested_of nested)

-- This construct is the next one.
abbrev pub IsConstructNext : Statement → List WorkAt → Type 0
IsConstructNext construct rest = next_construct rest ≡ Some construct

-- The stage of a machine after a step in which no allocation failed.
abbrev pub stage_by : Step Found → Stage
stage_by step.More = Going
stage_by (step.Nest (found.Pass first end)) = Going
stage_by (step.Nest (found.Nest nested)) = Awaiting
stage_by step.Finished = Going
stage_by step.NoMemory = Going

-- The result of a step that hands out no construct: no work remains, or the first work has moved.
abbrev pub step_by : Option Reported → Step Found
step_by None = step.Finished
step_by (Some Nothing) = step.More
step_by (Some (Skips first end)) = step.Nest (found.Pass first end)

-- The number of the construct's sites; 0 if there is none.
abbrev pub sites_seen : Option (Bor Stmt) → ℕ
sites_seen None = 0
sites_seen (Some construct) = capped (statement_sites_in (statement_of construct.now))
