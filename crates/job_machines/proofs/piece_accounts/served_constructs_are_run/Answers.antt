use Rattle.job_machines.proofs.Serving.{served_constructs_are_run}
use Rattle.job_machines.proofs.piece_accounts.served_constructs_are_run.Goals as goal

pub returns : goal.returns
returns c = served_constructs_are_run
