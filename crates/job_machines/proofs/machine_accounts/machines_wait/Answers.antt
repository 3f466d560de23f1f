use Rattle.job_machines.proofs.Going.{machines_wait}
use Rattle.job_machines.proofs.machine_accounts.machines_wait.Goals as goal

pub returns : goal.returns
returns c = machines_wait
