use Rattle.job_machines.proofs.Closing.{constructs_end}
use Rattle.job_machines.proofs.machine_accounts.constructs_end.Goals as goal

pub returns : goal.returns
returns c = constructs_end
