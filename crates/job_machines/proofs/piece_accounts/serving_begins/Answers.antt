use Rattle.job_machines.proofs.Serving.{serving_begins}
use Rattle.job_machines.proofs.piece_accounts.serving_begins.Goals as goal

pub returns : goal.returns
returns c = serving_begins
