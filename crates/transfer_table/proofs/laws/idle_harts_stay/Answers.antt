use Rattle.transfer_table.proofs.LawsHold.{idle_harts_stay}
use Rattle.transfer_table.proofs.laws.idle_harts_stay.Goals as goal

pub returns : goal.returns
returns c = idle_harts_stay
