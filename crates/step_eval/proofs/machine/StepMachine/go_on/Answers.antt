use Rattle.step_eval.proofs.GoLemmas.{gone_step, gone_still}
use Rattle.step_eval.proofs.machine.StepMachine.go_on.Goals as goal

pub returns-else-run_through : goal.returns-else-run_through
returns-else-run_through c =
    gone_still c.args.self.now c.run_through.new.self c.step.new.self c.run_through.result c.step.result c.if-run_through.false c.run_through.ensures
    (gone_step c.run_through.new.self c.step.new.self c.step.result c.step.ensures.exact c.step.ensures.work)
