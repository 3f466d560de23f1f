use Rattle.transfer_table.proofs.LawsHold.{prefixes_are_legal}
use Rattle.transfer_table.proofs.laws.prefixes_are_legal.Goals as goal

pub returns : goal.returns
returns c = prefixes_are_legal
