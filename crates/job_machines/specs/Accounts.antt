-- The writes that a machine awaits, and the accounts of the sites of its job.
use Rattle.std.specs.Prelude.{◌≡◌, ℕ, ℤ, List}
use Rattle.transfer_table.specs.Plan.{Plan, IsPlan}
use Rattle.transfer_table.specs.declared.entry.Entry.{Entry}
use Rattle.array_jobs.specs.Jobs.{JobParts, job_of}
use Rattle.step_eval.specs.Nests.{NestedParts, nested_of}
use Rattle.step_eval.specs.Machines.{Progress, AreAwaited}
use Rattle.step_eval.specs.declared.stage.Stage.TheVariants.{Awaiting}
use Rattle.job_machines.specs.Machines.{IsFreshJob, IsRunJob, IsFreshConstruct, IsRunNested, IsGoing, IsWaiting}

-- The machine awaits these writes.
abbrev pub IsAwaitingWrites : Progress → List (ℕ × ℤ) → Type 0
IsAwaitingWrites machine written = (machine.stage ≡ Awaiting) × AreAwaited machine written

-- The sites of a job are fresh.
abbrev pub is_fresh_job : Plan → ℕ → List Entry → JobParts → Type 0
is_fresh_job p around es job = IsPlan p × IsFreshJob p around es (job_of job)

-- The sites of a construct are fresh.
abbrev pub is_fresh : Plan → ℕ → List Entry → NestedParts → Type 0
is_fresh p around es nested = IsFreshConstruct p around es (nested_of nested)

-- Between these entries a job has run.
abbrev pub is_run_job : Plan → List Entry → List Entry → JobParts → Type 0
is_run_job p before after job = IsRunJob p before after (job_of job)

-- Between these entries a construct has run.
abbrev pub is_run : Plan → List Entry → List Entry → NestedParts → Type 0
is_run p before after nested = IsRunNested p before after (nested_of nested)

-- A machine has run its job up to its current state.
abbrev pub is_going : Progress → Plan → ℕ → List Entry → List Entry → Type 0
is_going machine p around start es = IsPlan p × IsGoing p around start es machine

-- A machine has run its job up to the construct that it awaits.
abbrev pub is_waiting : NestedParts → Progress → Plan → ℕ → List Entry → List Entry → Type 0
is_waiting nested machine p around start es =
    IsPlan p × IsWaiting p around start es (nested_of nested) machine
