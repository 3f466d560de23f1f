use Rattle.transfer_table.proofs.AccountEnds.{all_over_is_complete}
use Rattle.transfer_table.proofs.site_accounts.all_over_is_complete.Goals as goal

pub returns : goal.returns
returns c = all_over_is_complete
