use Rattle.job_machines.proofs.Accounts.{accounts_pass_constructs}
use Rattle.job_machines.proofs.piece_accounts.accounts_pass_constructs.Goals as goal

pub returns : goal.returns
returns c = accounts_pass_constructs
