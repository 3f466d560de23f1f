use Rattle.array_meaning.proofs.ClashCells.{least_clash}
use Rattle.array_meaning.proofs.least_clash_is_reported.Goals as goal

pub returns : goal.returns
returns c = least_clash
