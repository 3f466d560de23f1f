use Rattle.transfer_table.proofs.LawsHold.{entries_are_in_the_plan}
use Rattle.transfer_table.proofs.laws.entries_are_in_the_plan.Goals as goal

pub returns : goal.returns
returns c = entries_are_in_the_plan
