use Rattle.transfer_table.proofs.LawsHold.{wishes_balance}
use Rattle.transfer_table.proofs.laws.wishes_balance.Goals as goal

pub returns : goal.returns
returns c = wishes_balance
