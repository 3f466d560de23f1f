use Rattle.job_machines.proofs.Closing.{constructs_open}
use Rattle.job_machines.proofs.machine_accounts.constructs_open.Goals as goal

pub returns : goal.returns
returns c = constructs_open
