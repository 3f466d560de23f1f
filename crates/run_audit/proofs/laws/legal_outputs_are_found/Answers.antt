use Rattle.run_audit.proofs.Found.{legal_outputs}
use Rattle.run_audit.proofs.laws.legal_outputs_are_found.Goals as goal

pub returns : goal.returns
returns c = legal_outputs
