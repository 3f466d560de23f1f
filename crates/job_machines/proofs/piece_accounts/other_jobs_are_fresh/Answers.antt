use Rattle.job_machines.proofs.Serving.{other_jobs_are_fresh}
use Rattle.job_machines.proofs.piece_accounts.other_jobs_are_fresh.Goals as goal

pub returns : goal.returns
returns c = other_jobs_are_fresh
