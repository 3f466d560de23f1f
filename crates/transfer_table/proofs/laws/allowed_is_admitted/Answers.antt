use Rattle.transfer_table.proofs.LawsHold.{allowed_is_admitted}
use Rattle.transfer_table.proofs.laws.allowed_is_admitted.Goals as goal

pub returns : goal.returns
returns c = allowed_is_admitted
