use Rattle.table_laws.proofs.Runs.{open_runs_are_legal}
use Rattle.table_laws.proofs.open_runs_are_legal.Goals as goal

pub returns : goal.returns
returns c = open_runs_are_legal
