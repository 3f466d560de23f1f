use Rattle.job_machines.proofs.Orders.{served_have_ended}
use Rattle.job_machines.proofs.machine_accounts.served_have_ended.Goals as goal

pub returns : goal.returns
returns c = served_have_ended
