use Rattle.job_machines.proofs.Reported.{next_passes_are_fresh}
use Rattle.job_machines.proofs.piece_accounts.next_passes_are_fresh.Goals as goal

pub returns : goal.returns
returns c = next_passes_are_fresh
