use Rattle.job_machines.proofs.Jobs.{jobs_are_done}
use Rattle.job_machines.proofs.machine_accounts.jobs_are_done.Goals as goal

pub returns : goal.returns
returns c = jobs_are_done
