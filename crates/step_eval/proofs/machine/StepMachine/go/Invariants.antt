use Rattle.std.proofs.Common.{◌≡◌, false}
use Rattle.contexts.specs.declared.machine.Step.{Step}
use Rattle.step_eval.specs.declared.found.Found.{Found}
use Rattle.step_eval.specs.Machines.{Progress, is_awaiting, left_of, HasGone}
use Rattle.step_eval.proofs.machine.StepMachine.go.Given as goal

-- Progress from the current state is progress from the start.
abbrev pub invariant-loop-step : goal.invariant-loop-step
invariant-loop-step l =
    (is_awaiting l.self.stage ≡ false)
    × ((s : Step Found) (last : Progress) → HasGone l.self s last → HasGone l.fn.self s last)

abbrev pub decreases-loop-step : goal.decreases-loop-step
decreases-loop-step l = left_of l.self.stage l.self.rest
