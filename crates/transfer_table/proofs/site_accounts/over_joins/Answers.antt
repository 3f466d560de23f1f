use Rattle.transfer_table.proofs.Algebra.{over_joins}
use Rattle.transfer_table.proofs.site_accounts.over_joins.Goals as goal

pub returns : goal.returns
returns c = over_joins
