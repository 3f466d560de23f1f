use Rattle.job_machines.proofs.Accounts.{accounts_begin}
use Rattle.job_machines.proofs.piece_accounts.accounts_begin.Goals as goal

pub returns : goal.returns
returns c = accounts_begin
