use Rattle.std.proofs.Common.{ap}
use Rattle.step_eval.specs.Machines.{is_awaiting}
use Rattle.step_eval.proofs.GoLemmas.{gone_further}
use Rattle.step_eval.proofs.machine.StepMachine.go.Goals as goal

pub loop-step-preserved : goal.loop-step-preserved
loop-step-preserved c =
    let gone = c.in-More.ensures in
    (ap is_awaiting gone.1, λ s last further. c.loop-step.invariant.1 s last (gone_further c.loop-step.self c.go_on.new.self last s gone further))
