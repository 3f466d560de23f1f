use Rattle.transfer_table.proofs.LawsHold.{children_of_new_are_new}
use Rattle.transfer_table.proofs.laws.children_of_new_are_new.Goals as goal

pub returns : goal.returns
returns c = children_of_new_are_new
