use Rattle.job_machines.proofs.Going.{machines_pass}
use Rattle.job_machines.proofs.machine_accounts.machines_pass.Goals as goal

pub returns : goal.returns
returns c = machines_pass
