use Rattle.table_laws.proofs.Ended.{ended_runs_are_complete}
use Rattle.table_laws.proofs.ended_runs_are_complete.Goals as goal

pub returns : goal.returns
returns c = ended_runs_are_complete
