use Rattle.job_machines.proofs.Going.{machines_run_on}
use Rattle.job_machines.proofs.machine_accounts.machines_run_on.Goals as goal

pub returns : goal.returns
returns c = machines_run_on
