use Rattle.phase_order.proofs.Tests.{least_crossing}
use Rattle.phase_order.proofs.laws.least_crossing_is_reported.Goals as goal

pub returns : goal.returns
returns c = least_crossing
