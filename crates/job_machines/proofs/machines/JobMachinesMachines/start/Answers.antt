use Rattle.std.proofs.Common.{sym, subst}
use Rattle.std.proofs.lemmas.Result.{IfOk-weaker}
use Rattle.job_machines.specs.Machines.{IsGoing}
use Rattle.job_machines.proofs.Going.{machines_begin}
use Rattle.job_machines.proofs.machines.JobMachinesMachines.start.Goals as goal

pub returns-clause-going : goal.returns-clause-going
returns-clause-going c = IfOk-weaker c.started.result _ _
    (λ machine is p around es fresh. (fresh.0, subst (IsGoing p around es es) (sym is) (machines_begin p around es c.args.job fresh.1))) c.started.ensures
