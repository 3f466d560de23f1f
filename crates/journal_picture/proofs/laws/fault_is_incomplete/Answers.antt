use Rattle.journal_picture.proofs.FaultsHold.{fault_incomplete}
use Rattle.journal_picture.proofs.laws.fault_is_incomplete.Goals as goal

pub returns : goal.returns
returns c = fault_incomplete
