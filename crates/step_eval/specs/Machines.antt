-- Machines, and the effects of their calls.
use Rattle.std.specs.Prelude.{◌≡◌, ℕ, ◌+◌, ◌-◌, ◌<◌, List, [], ◌∷◌, ◌++◌, Bool, true, false, Option, Some, None, IsSome, length}
use Rattle.contexts.specs.Machine.{Work}
use Rattle.contexts.specs.declared.machine.Step.{Step}
use Rattle.contexts.specs.declared.machine.Step.TheVariants as step
use Rattle.array_tree.specs.Trees.{Statement, Assign, For, If, Par, Team, ended, followed, declarations_of}
use Rattle.array_meaning.specs.Stores.{Write, arrays_of}
use Rattle.array_meaning.specs.Steps.{writes_of}
use Rattle.array_meaning.specs.Pieces.{last_writes}
use Rattle.array_eval.specs.Traces.{Trace, fresh, marked, noted_all, traced}
use Rattle.array_jobs.specs.Works.{WorkTree, branch_of, member_of, work_of, steps_of, sites_of}
use Rattle.array_jobs.specs.Jobs.{JobParts, JobTree}
use Rattle.array_jobs.specs.PieceParts.{piece_of_job}
use Rattle.step_eval.specs.declared.found.Found.{Found}
use Rattle.step_eval.specs.declared.found.Found.TheVariants as found
use Rattle.step_eval.specs.declared.stage.Stage.{Stage}
use Rattle.step_eval.specs.declared.stage.Stage.TheVariants.{Going, Awaiting, Failed}
use Rattle.step_eval.specs.Rest.{WorkAt, at, rest_steps, rest_sites, AreFit}
use Rattle.step_eval.specs.Moves.{moved, moved_writes, moved_sites, rest_left}
use Rattle.step_eval.specs.Passes.{pass_of}
use Rattle.step_eval.specs.Nests.{NestedTree, nested_of, nested_writes}

-- The parts of a machine that contracts see: its job, the remaining works, the current store with marks for the cells written
-- so far, the number of the next site, and its stage. A work is a block or a loop with its variables; contracts see no frames.
pub record Progress : Type 0 where
  pub job : JobParts
  pub rest : List WorkAt
  pub store : Trace
  pub next : ℕ
  pub stage : Stage

-- A right machine. The last values of its writes so far, followed by the writes of the rest from the current store, are its
-- job's piece. The next site's number is the job's first plus the number of sites that the walk has passed. Each work of the
-- rest is fit to run.
pub record IsRight (job : JobTree) (rest : List WorkAt) (store : Trace) (next : ℕ) : Type 0 where
  pub writes : last_writes
      (marked store ++ writes_of (arrays_of job.arrays) (rest_steps rest) store.cells)
      ≡ piece_of_job job
  pub sites : next + rest_sites rest ≡ job.first + sites_of job.work
  pub fit : AreFit job next rest
  pub cells : length store.cells ≡ length job.store
  pub marks : length store.marks ≡ length job.store

-- The construct that is the first statement of a work, if it is one.
abbrev pub construct_of : WorkTree → Option Statement
construct_of (branch_of ended) = None
construct_of (branch_of (followed (Assign line array index value) rest)) = None
construct_of (branch_of (followed (For line var low high body) rest)) = None
construct_of (branch_of (followed (If line cond then_block else_block) rest)) = None
construct_of (branch_of (followed (Par line branches) rest)) = Some (Par line branches)
construct_of (branch_of (followed (Team line var low high members phases) rest)) =
    Some (Team line var low high members phases)
construct_of (member_of var low high body) = None

-- The construct that runs next, if there is one.
abbrev pub next_construct : List WorkAt → Option Statement
next_construct [] = None
next_construct (w ∷ more) = construct_of w.work

-- The machine's invariant: unless the machine is failed it is right, and the construct that it awaits is the next one.
abbrev pub IsKept : Stage → JobTree → List WorkAt → Trace → ℕ → Type 0
IsKept Going job rest store next = IsRight job rest store next
IsKept Awaiting job rest store next = IsRight job rest store next × IsSome (next_construct rest)
IsKept Failed job rest store next = Unit {0}

-- The machine that is made of a job, with all of the job remaining.
abbrev pub fresh_machine : JobParts → Progress
fresh_machine job = record {
  job = job;
  rest = at (work_of job.work) job.vars ∷ [];
  store = fresh job.store;
  next = job.first;
  stage = Going;
}

-- The writes that remain.
abbrev pub rest_writes : Progress → List Write
rest_writes machine = writes_of (arrays_of (declarations_of machine.job.arrays))
    (rest_steps machine.rest) machine.store.cells

-- The test decides whether a machine awaits the writes of a construct.
abbrev pub is_awaiting : Stage → Bool
is_awaiting Going = false
is_awaiting Awaiting = true
is_awaiting Failed = false

-- An upper bound of the number of remaining steps. An awaited construct takes no step. A construct counts for one step until it
-- is handed out, and both sides of an `if` count. A failed machine is never done.
abbrev pub left_of : Stage → List WorkAt → ℕ
left_of Going rest = rest_left rest
left_of Awaiting rest = rest_left rest - 1
left_of Failed rest = 1

-- The remaining work of a machine, as contracts see it of any machine.
abbrev pub to_do : Progress → Work
to_do machine = record {
  rest = rest_writes machine;
  awaits = is_awaiting machine.stage;
  left = left_of machine.stage machine.rest;
}

-- The construct that is handed out at this work of a machine.
abbrev pub handed_out : Progress → WorkAt → Option Statement → Option NestedTree
handed_out machine w None = None
handed_out machine w (Some construct) = Some record {
  arrays = declarations_of machine.job.arrays;
  site = machine.next;
  construct = construct;
  vars = w.vars;
  store = machine.store.cells;
}

-- The construct that is handed out for the first of these works.
abbrev pub nest_in : Progress → List WorkAt → Option NestedTree
nest_in machine [] = None
nest_in machine (w ∷ more) = handed_out machine w (construct_of w.work)

-- The construct that runs next, as it is handed out.
abbrev pub next_nest : Progress → Option NestedTree
next_nest machine = nest_in machine machine.rest

-- The sites that the hart has to skip with the next step: those of the side of an `if` that doesn't run.
abbrev pub next_pass : Progress → Option (ℕ × ℕ)
next_pass machine =
    pass_of (arrays_of (declarations_of machine.job.arrays)) machine.store.cells machine.next
    machine.rest

-- A machine that goes on has moved by one step: its first work has moved.
abbrev pub HasMoved : List WorkAt → Progress → Progress → Type 0
HasMoved [] before after = ⊥
HasMoved (w ∷ more) before after =
    let arrays = arrays_of (declarations_of before.job.arrays) in
    after ≡ record {
      job = before.job;
      rest = moved arrays before.store.cells w ++ more;
      store = noted_all (moved_writes arrays before.store.cells w.work w.vars) before.store;
      next = before.next + moved_sites arrays before.store.cells w;
      stage = Going;
    }

-- The effect of a step, by its result. More: no construct is next, and no `if` whose other side has sites, and the first work
-- has moved. A construct: the next one is handed out, with its site's number and the current variables and store, and the
-- machine awaits its writes. A pass: the next `if` has begun, and the hart gets the sites of the side that doesn't run; the
-- machine awaits nothing. Finished: no work remains. NoMemory: the machine is failed.
abbrev pub Advances : Progress → Step Found → Progress → Type 0
Advances before step.More after =
    (before.stage ≡ Going) × (next_nest before ≡ None) × (next_pass before ≡ None)
    × HasMoved before.rest before after
Advances before (step.Nest (found.Pass first end)) after =
    (before.stage ≡ Going) × (next_pass before ≡ Some (first, end))
    × HasMoved before.rest before after
Advances before (step.Nest (found.Nest nested)) after =
    (before.stage ≡ Going) × (next_nest before ≡ Some (nested_of nested))
    × (after ≡ record {
      job = before.job;
      rest = before.rest;
      store = before.store;
      next = before.next;
      stage = Awaiting;
    })
Advances before step.Finished after = (before.stage ≡ Going) × (before.rest ≡ []) × (after ≡ before)
Advances before step.NoMemory after = after.stage ≡ Failed

-- The writes of the construct, if there is one.
abbrev pub AreAwaitedBy : Option NestedTree → List Write → Type 0
AreAwaitedBy None written = ⊥
AreAwaitedBy (Some nested) written = written ≡ nested_writes nested

-- The writes of the awaited construct.
abbrev pub AreAwaited : Progress → List Write → Type 0
AreAwaited machine written = AreAwaitedBy (next_nest machine) written

-- The last step of a machine was Finished: it isn't failed, and no work remains.
pub record IsFinished (machine : Progress) : Type 0 where
  pub stage : machine.stage ≡ Going
  pub rest : machine.rest ≡ []

-- The first work, which has no site in it or after it, ran completely.
abbrev pub HasRunWhole : List WorkAt → Progress → Progress → Type 0
HasRunWhole [] before after = ⊥
HasRunWhole (w ∷ more) before after =
    let arrays = arrays_of (declarations_of before.job.arrays) in
    (sites_of w.work + w.after ≡ 0)
    × (after ≡ record {
      job = before.job;
      rest = more;
      store = traced arrays (steps_of w.work w.vars) before.store;
      next = before.next;
      stage = Going;
    })

-- The machine goes from the first state to the second without an event for its hart: by steps that hand out no construct and
-- pass no site, and by works without sites that run completely. Laws go over it by cases.
pub data RunsTo (first : Progress) : Progress → Type 0 where
  stands : RunsTo first first
  moves : (mid last : Progress) → RunsTo first mid → mid.stage ≡ Going → next_nest mid ≡ None
      → next_pass mid ≡ None → HasMoved mid.rest mid last → RunsTo first last
  skims : (mid last : Progress) → RunsTo first mid → mid.stage ≡ Going
      → HasRunWhole mid.rest mid last → RunsTo first last

-- With its last step, the machine began an `if` whose other side, which doesn't run, has these sites.
pub record HasJustPassed (start : Progress) (first end : ℕ) (after : Progress) : Type 0 where
  pub before : Progress
  pub ran : RunsTo start before
  pub stage : before.stage ≡ Going
  pub reported : next_pass before ≡ Some (first, end)
  pub moved : HasMoved before.rest before after

-- The machine after a run of steps, by the result. Each time it is the same job, and the invariant implies that the machine
-- writes what the job writes. More: it goes on, with less remaining. A construct: it has come to the construct that is handed
-- out, and awaits its writes. A pass: it has begun an `if`, and the hart gets the sites of the side that doesn't run. Finished:
-- no work remains. NoMemory: the machine is failed. Before, there was no event for its hart.
abbrev pub HasGone : Progress → Step Found → Progress → Type 0
HasGone before step.More after =
    (after.job ≡ before.job) × (after.stage ≡ Going)
    × (left_of after.stage after.rest < left_of before.stage before.rest)
    × RunsTo before after
HasGone before (step.Nest (found.Pass first end)) after =
    (after.job ≡ before.job) × (after.stage ≡ Going) × HasJustPassed before first end after
    × (left_of after.stage after.rest < left_of before.stage before.rest)
HasGone before (step.Nest (found.Nest nested)) after =
    (after.job ≡ before.job) × (after.stage ≡ Awaiting) × (next_nest after ≡ Some (nested_of nested))
    × (left_of after.stage after.rest < left_of before.stage before.rest)
    × RunsTo before (record after { stage = Going })
HasGone before step.Finished after =
    (after.job ≡ before.job) × IsFinished after × RunsTo before after
HasGone before step.NoMemory after = after.stage ≡ Failed

-- A machine has gone on, or is unchanged.
abbrev pub HasGoneOn : Bool → Progress → Progress → Type 0
HasGoneOn false before after = after ≡ before
HasGoneOn true before after = HasGone before step.More after
