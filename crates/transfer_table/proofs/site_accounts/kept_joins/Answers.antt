use Rattle.transfer_table.proofs.Algebra.{kept_joins}
use Rattle.transfer_table.proofs.site_accounts.kept_joins.Goals as goal

pub returns : goal.returns
returns c = kept_joins
