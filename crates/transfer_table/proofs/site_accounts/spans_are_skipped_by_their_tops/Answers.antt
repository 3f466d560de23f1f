use Rattle.transfer_table.proofs.Touches.{spans_are_skipped_by_their_tops}
use Rattle.transfer_table.proofs.site_accounts.spans_are_skipped_by_their_tops.Goals as goal

pub returns : goal.returns
returns c = spans_are_skipped_by_their_tops
