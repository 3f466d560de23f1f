use Rattle.transfer_table.proofs.LawsHold.{homes_stay_inside}
use Rattle.transfer_table.proofs.laws.homes_stay_inside.Goals as goal

pub returns : goal.returns
returns c = homes_stay_inside
