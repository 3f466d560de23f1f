use Rattle.table_laws.proofs.Opening.{planned_runs_are_open}
use Rattle.table_laws.proofs.planned_runs_are_open.Goals as goal

pub returns : goal.returns
returns c = planned_runs_are_open
