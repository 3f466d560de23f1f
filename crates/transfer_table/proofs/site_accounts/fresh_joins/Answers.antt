use Rattle.transfer_table.proofs.Algebra.{fresh_joins}
use Rattle.transfer_table.proofs.site_accounts.fresh_joins.Goals as goal

pub returns : goal.returns
returns c = fresh_joins
