use Rattle.job_machines.proofs.Orders.{serving_starts}
use Rattle.job_machines.proofs.machine_accounts.serving_starts.Goals as goal

pub returns : goal.returns
returns c = serving_starts
