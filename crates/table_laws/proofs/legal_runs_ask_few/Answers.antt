use Rattle.table_laws.proofs.Sharp.{legal_runs_ask_few}
use Rattle.table_laws.proofs.legal_runs_ask_few.Goals as goal

pub returns : goal.returns
returns c = legal_runs_ask_few
