use Rattle.job_machines.proofs.Accounts.{accounts_end}
use Rattle.job_machines.proofs.piece_accounts.accounts_end.Goals as goal

pub returns : goal.returns
returns c = accounts_end
