use Rattle.table_laws.proofs.Worked.{worked_example}
use Rattle.table_laws.proofs.worked_example.Goals as goal

pub returns : goal.returns
returns c = worked_example
