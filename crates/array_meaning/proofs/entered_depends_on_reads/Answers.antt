use Rattle.array_meaning.proofs.CellLemmas.{some_cell}
use Rattle.array_meaning.proofs.EnterAlone.{depends_sequence}
use Rattle.array_meaning.proofs.entered_depends_on_reads.Goals as goal

pub returns : goal.returns
returns c arrays have = depends_sequence arrays (some_cell arrays have)
