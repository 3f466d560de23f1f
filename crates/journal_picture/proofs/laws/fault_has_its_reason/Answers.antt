use Rattle.journal_picture.proofs.FaultsHold.{fault_reason}
use Rattle.journal_picture.proofs.laws.fault_has_its_reason.Goals as goal

pub returns : goal.returns
returns c = fault_reason
