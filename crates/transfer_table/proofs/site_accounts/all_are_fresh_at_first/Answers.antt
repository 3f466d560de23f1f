use Rattle.transfer_table.proofs.Algebra.{all_are_fresh_at_first}
use Rattle.transfer_table.proofs.site_accounts.all_are_fresh_at_first.Goals as goal

pub returns : goal.returns
returns c = all_are_fresh_at_first
