use Rattle.std.proofs.Common.{◌∙◌, ap}
use Rattle.array_meaning.specs.Steps.{writes_of}
use Rattle.array_meaning.specs.Members.{team_works}
use Rattle.array_meaning.specs.Pieces.{last_writes}
use Rattle.array_meaning.proofs.CellLemmas.{some_cell}
use Rattle.array_meaning.proofs.MemberLemmas.{members_loop}
use Rattle.array_meaning.proofs.OrderLemmas.{any_order}
use Rattle.array_meaning.proofs.members_are_independent.Goals as goal

pub returns : goal.returns
returns c arrays have var low high members body vars order store some apart same =
    any_order arrays (some_cell arrays have) (team_works var low high members body vars) order store apart same
    ∙ ap (λ w. last_writes (writes_of arrays w store)) (members_loop var low high members body vars some)
