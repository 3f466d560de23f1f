use Rattle.array_meaning.proofs.CellLemmas.{some_cell}
use Rattle.array_meaning.proofs.EnterAlone.{branches_enter}
use Rattle.array_meaning.proofs.branches_enter_alone.Goals as goal

pub returns : goal.returns
returns c arrays have = branches_enter arrays (some_cell arrays have)
