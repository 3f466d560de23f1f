use Rattle.job_machines.proofs.Orders.{next_jobs_are_done}
use Rattle.job_machines.proofs.machine_accounts.next_jobs_are_done.Goals as goal

pub returns : goal.returns
returns c = next_jobs_are_done
