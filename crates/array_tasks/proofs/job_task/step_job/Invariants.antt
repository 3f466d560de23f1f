use Rattle.std.proofs.Common.{◌≡◌, false}
use Rattle.step_eval.specs.Machines.{is_awaiting, left_of}
use Rattle.array_tasks.proofs.job_task.step_job.Given as goal

-- The machine goes on with its job, and the levels stay.
abbrev pub invariant-constructs : goal.invariant-constructs
invariant-constructs g l = record {
  job : l.machine.job ≡ l.fn.job;
  ready : is_awaiting l.machine.stage ≡ false;
  levels : g.H.Harts.levels l.harts ≡ g.H.Harts.levels l.fn.harts;
}

abbrev pub decreases-constructs : goal.decreases-constructs
decreases-constructs g l = left_of l.machine.stage l.machine.rest
