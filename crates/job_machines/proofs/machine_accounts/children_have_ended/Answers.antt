use Rattle.job_machines.proofs.Closing.{children_have_ended}
use Rattle.job_machines.proofs.machine_accounts.children_have_ended.Goals as goal

pub returns : goal.returns
returns c = children_have_ended
