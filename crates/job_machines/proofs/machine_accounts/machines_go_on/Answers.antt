use Rattle.job_machines.proofs.Going.{machines_go_on}
use Rattle.job_machines.proofs.machine_accounts.machines_go_on.Goals as goal

pub returns : goal.returns
returns c = machines_go_on
