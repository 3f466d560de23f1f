use Rattle.transfer_table.proofs.LawsHold.{within_is_tested}
use Rattle.transfer_table.proofs.laws.within_is_tested.Goals as goal

pub returns : goal.returns
returns c = within_is_tested
