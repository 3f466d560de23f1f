use Rattle.array_meaning.proofs.CellLemmas.{some_cell}
use Rattle.array_meaning.proofs.EnterAlone.{members_enter}
use Rattle.array_meaning.proofs.members_enter_alone.Goals as goal

pub returns : goal.returns
returns c arrays have var low high members body vars =
    members_enter arrays (some_cell arrays have) var low high members body vars
