use Rattle.array_meaning.proofs.ClashCells.{clash_of, passes_of}
use Rattle.array_meaning.proofs.clashes_are_tested.Goals as goal

pub returns : goal.returns
returns c arrays pieces cell = (clash_of arrays cell pieces, passes_of arrays cell pieces)
