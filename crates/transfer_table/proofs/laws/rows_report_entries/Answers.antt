use Rattle.transfer_table.proofs.LawsHold.{rows_report_entries}
use Rattle.transfer_table.proofs.laws.rows_report_entries.Goals as goal

pub returns : goal.returns
returns c = rows_report_entries
