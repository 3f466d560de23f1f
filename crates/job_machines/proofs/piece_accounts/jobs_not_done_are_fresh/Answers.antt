use Rattle.job_machines.proofs.NotDone.{jobs_not_done_are_fresh}
use Rattle.job_machines.proofs.piece_accounts.jobs_not_done_are_fresh.Goals as goal

pub returns : goal.returns
returns c = jobs_not_done_are_fresh
