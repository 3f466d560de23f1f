-- How a machine continues, as the procedure sees it, and how its account continues.
use Rattle.std.proofs.Common.{◌≡◌, ℕ, ℤ, false, List, Option, refl, sym, ap, subst}
use Rattle.contexts.specs.declared.machine.Step.{Step}
use Rattle.contexts.specs.declared.machine.Step.TheVariants as step
use Rattle.array_jobs.specs.Jobs.{job_of}
use Rattle.step_eval.specs.declared.found.Found.{Found}
use Rattle.step_eval.specs.declared.found.Found.TheVariants as found
use Rattle.step_eval.specs.declared.stage.Stage.TheVariants.{Going}
use Rattle.step_eval.specs.Nests.{NestedParts, nested_of, nested_writes}
use Rattle.step_eval.specs.Machines.{Progress, is_awaiting, left_of, HasGone, IsFinished, AreAwaitedBy}
use Rattle.job_machines.specs.Machines.{IsRunJob}
use Rattle.job_machines.proofs.Going.{machines_run_on, machines_wait, machines_pass, machines_finish}
use Rattle.job_machines.specs.Accounts.{IsAwaitingWrites, is_fresh, is_run_job, is_going, is_waiting}
use Rattle.job_machines.specs.Met.{as_seen}
use Rattle.hart_work.specs.Steps.{Goes}
use Rattle.hart_work.specs.Accounts.{Accounts}

pub goes_of : (before after : Progress) (s : Step Found) → HasGone before s after →
    Goes (λ (n : NestedParts). nested_writes (nested_of n)) (as_seen s) (left_of before.stage before.rest) (left_of after.stage after.rest) (is_awaiting after.stage ≡ false) (IsAwaitingWrites after) (after.job ≡ before.job)
goes_of before after step.More gone = (gone.2, ap is_awaiting gone.1, gone.0)
goes_of before after (step.Nest (found.Nest n)) gone =
    let ws : List (ℕ × ℤ) = nested_writes (nested_of n) in
    (gone.3, (gone.1, subst (λ (o : Option _). AreAwaitedBy o ws) (sym gone.2) refl), gone.0)
goes_of before after (step.Nest (found.Pass first end)) gone = (gone.3, ap is_awaiting gone.1, gone.0)
goes_of before after step.Finished gone = gone.0
goes_of before after step.NoMemory gone = tt

pub accounts_of : (before after : Progress) (s : Step Found) → HasGone before s after →
    Accounts is_fresh (λ p start es. is_run_job p start es before.job) (is_going before) (is_going after) (λ nested. is_waiting nested after) (as_seen s)
accounts_of before after step.More gone = λ p around start es going. (going.0, machines_run_on p around start es before after gone.3 going.1)
accounts_of before after (step.Nest (found.Nest n)) gone = λ p around start es going.
    let there = machines_run_on p around start es before (record after { stage = Going }) gone.4 going.1 in
    let waits = machines_wait p around start es (nested_of n) after going.0 there gone.2 in
    ((going.0, waits.0), waits.1)
accounts_of before after (step.Nest (found.Pass first end)) gone = λ p around start es going.
    let passed = gone.2 in
    let there = machines_run_on p around start es before passed.before passed.ran going.1 in
    let reported = machines_pass p around start es first end passed.before after there passed.reported passed.moved in
    (reported.0, reported.1, λ es' skipped. (going.0, reported.2 es' skipped))
accounts_of before after step.Finished gone = λ p around start es going.
    subst (λ j. IsRunJob p start es (job_of j)) gone.0 (machines_finish p around start es after (machines_run_on p around start es before after gone.2 going.1) gone.1.rest)
accounts_of before after step.NoMemory gone = tt

pub finished_of : (before after : Progress) (s : Step Found) → HasGone before s after → as_seen s ≡ step.Finished → IsFinished after
finished_of before after step.Finished gone e = gone.1
finished_of before after step.More gone e = cc
finished_of before after (step.Nest (found.Nest n)) gone e = cc
finished_of before after (step.Nest (found.Pass first end)) gone e = cc
finished_of before after step.NoMemory gone e = cc
