use Rattle.job_machines.proofs.Orders.{phases_turn}
use Rattle.job_machines.proofs.machine_accounts.phases_turn.Goals as goal

pub returns : goal.returns
returns c = phases_turn
