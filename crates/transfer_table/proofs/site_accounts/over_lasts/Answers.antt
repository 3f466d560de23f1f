use Rattle.transfer_table.proofs.Algebra.{over_lasts}
use Rattle.transfer_table.proofs.site_accounts.over_lasts.Goals as goal

pub returns : goal.returns
returns c = over_lasts
