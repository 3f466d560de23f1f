use Rattle.job_machines.proofs.Going.{machines_finish}
use Rattle.job_machines.proofs.machine_accounts.machines_finish.Goals as goal

pub returns : goal.returns
returns c = machines_finish
