use Rattle.job_machines.proofs.Jobs.{bodies_are_run}
use Rattle.job_machines.proofs.machine_accounts.bodies_are_run.Goals as goal

pub returns : goal.returns
returns c = bodies_are_run
