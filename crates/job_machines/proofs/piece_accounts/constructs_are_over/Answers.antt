use Rattle.job_machines.proofs.Each.{constructs_are_over}
use Rattle.job_machines.proofs.piece_accounts.constructs_are_over.Goals as goal

pub returns : goal.returns
returns c = constructs_are_over
