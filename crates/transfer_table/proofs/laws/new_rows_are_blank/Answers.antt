use Rattle.transfer_table.proofs.LawsHold.{new_rows_are_blank}
use Rattle.transfer_table.proofs.laws.new_rows_are_blank.Goals as goal

pub returns : goal.returns
returns c = new_rows_are_blank
