use Rattle.job_machines.proofs.Orders.{served_are_run}
use Rattle.job_machines.proofs.machine_accounts.served_are_run.Goals as goal

pub returns : goal.returns
returns c = served_are_run
