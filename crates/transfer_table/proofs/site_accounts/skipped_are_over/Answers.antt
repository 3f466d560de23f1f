use Rattle.transfer_table.proofs.Algebra.{skipped_are_over}
use Rattle.transfer_table.proofs.site_accounts.skipped_are_over.Goals as goal

pub returns : goal.returns
returns c = skipped_are_over
