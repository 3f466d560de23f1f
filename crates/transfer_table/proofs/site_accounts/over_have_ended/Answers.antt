use Rattle.transfer_table.proofs.Algebra.{over_have_ended}
use Rattle.transfer_table.proofs.site_accounts.over_have_ended.Goals as goal

pub returns : goal.returns
returns c = over_have_ended
