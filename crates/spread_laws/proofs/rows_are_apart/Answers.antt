use Rattle.spread_laws.proofs.RowsApart.{rows_apart}
use Rattle.spread_laws.proofs.rows_are_apart.Goals as goal

pub returns : goal.returns
returns c = rows_apart
