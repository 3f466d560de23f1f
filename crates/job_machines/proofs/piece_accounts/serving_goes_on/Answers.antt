use Rattle.job_machines.proofs.Serving.{serving_goes_on}
use Rattle.job_machines.proofs.piece_accounts.serving_goes_on.Goals as goal

pub returns : goal.returns
returns c = serving_goes_on
