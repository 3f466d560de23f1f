use Rattle.job_machines.proofs.Jobs.{jobs_are_fresh}
use Rattle.job_machines.proofs.machine_accounts.jobs_are_fresh.Goals as goal

pub returns : goal.returns
returns c = jobs_are_fresh
