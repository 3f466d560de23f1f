use Rattle.transfer_table.proofs.Spans.{fresh_spans_are_skipped}
use Rattle.transfer_table.proofs.site_accounts.fresh_spans_are_skipped.Goals as goal

pub returns : goal.returns
returns c = fresh_spans_are_skipped
