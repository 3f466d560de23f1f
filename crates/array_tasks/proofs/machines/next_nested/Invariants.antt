use Rattle.std.proofs.Common.{◌≡◌, ◌≤◌, false}
use Rattle.step_eval.specs.Machines.{is_awaiting, left_of}
use Rattle.array_tasks.proofs.machines.next_nested.Given as goal

-- The machine goes on with its job, with no more steps left than at first.
abbrev pub invariant-steps : goal.invariant-steps
invariant-steps l = record {
  job : l.machine.job ≡ l.fn.machine.job;
  ready : is_awaiting l.machine.stage ≡ false;
  left : left_of l.machine.stage l.machine.rest ≤ left_of l.fn.machine.stage l.fn.machine.rest;
}

abbrev pub decreases-steps : goal.decreases-steps
decreases-steps l = left_of l.machine.stage l.machine.rest
