use Rattle.transfer_table.proofs.LawsHold.{harts_are_conserved}
use Rattle.transfer_table.proofs.laws.harts_are_conserved.Goals as goal

pub returns : goal.returns
returns c = harts_are_conserved
