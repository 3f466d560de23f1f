use Rattle.job_machines.proofs.Ahead.{next_constructs_are_fresh}
use Rattle.job_machines.proofs.piece_accounts.next_constructs_are_fresh.Goals as goal

pub returns : goal.returns
returns c = next_constructs_are_fresh
