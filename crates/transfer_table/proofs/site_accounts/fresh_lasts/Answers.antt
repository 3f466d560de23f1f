use Rattle.transfer_table.proofs.Algebra.{fresh_lasts}
use Rattle.transfer_table.proofs.site_accounts.fresh_lasts.Goals as goal

pub returns : goal.returns
returns c = fresh_lasts
