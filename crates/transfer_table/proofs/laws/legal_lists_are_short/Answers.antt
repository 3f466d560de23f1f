use Rattle.transfer_table.proofs.LawsHold.{legal_lists_are_short}
use Rattle.transfer_table.proofs.laws.legal_lists_are_short.Goals as goal

pub returns : goal.returns
returns c = legal_lists_are_short
