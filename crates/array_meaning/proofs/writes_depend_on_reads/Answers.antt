use Rattle.array_meaning.proofs.CellLemmas.{some_cell}
use Rattle.array_meaning.proofs.FrameLemmas.{writes_same}
use Rattle.array_meaning.proofs.writes_depend_on_reads.Goals as goal

pub returns : goal.returns
returns c arrays have = writes_same arrays (some_cell arrays have)
