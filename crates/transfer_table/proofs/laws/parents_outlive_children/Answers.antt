use Rattle.transfer_table.proofs.LawsHold.{parents_outlive_children}
use Rattle.transfer_table.proofs.laws.parents_outlive_children.Goals as goal

pub returns : goal.returns
returns c = parents_outlive_children
