use Rattle.array_meaning.proofs.CellLemmas.{some_cell}
use Rattle.array_meaning.proofs.OrderLemmas.{any_order}
use Rattle.array_meaning.proofs.pieces_are_independent.Goals as goal

pub returns : goal.returns
returns c arrays have = any_order arrays (some_cell arrays have)
