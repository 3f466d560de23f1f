use Rattle.job_machines.proofs.Accounts.{accounts_step}
use Rattle.job_machines.proofs.piece_accounts.accounts_step.Goals as goal

pub returns : goal.returns
returns c = accounts_step
