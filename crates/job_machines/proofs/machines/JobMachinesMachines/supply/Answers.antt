use Rattle.std.proofs.Common.{subst}
use Rattle.std.proofs.lemmas.Result.{IfOk-weaker}
use Rattle.step_eval.specs.Nests.{nested_of}
use Rattle.step_eval.specs.Machines.{HasMoved}
use Rattle.job_machines.proofs.Going.{machines_go_on}
use Rattle.job_machines.proofs.machines.JobMachinesMachines.supply.Goals as goal

pub returns-clause-going : goal.returns-clause-going
returns-clause-going c = IfOk-weaker c.supply.result _ _
    (λ _ moved nested p around start es es' waits ran. (
      waits.0,
      machines_go_on p around start es es' (nested_of nested) c.args.running.now c.supply.new.self waits.1 ran (subst (λ m. HasMoved m.rest m c.supply.new.self) c.machine.ensures.value moved),
    ))
    c.supply.ensures.ok
