use Rattle.std.proofs.Common.{◌∙◌, ap}
use Rattle.array_meaning.specs.Steps.{writes_of}
use Rattle.array_meaning.specs.Sites.{branch_works}
use Rattle.array_meaning.specs.Pieces.{last_writes}
use Rattle.array_meaning.proofs.CellLemmas.{some_cell, join_branches}
use Rattle.array_meaning.proofs.OrderLemmas.{any_order}
use Rattle.array_meaning.proofs.branches_are_independent.Goals as goal

pub returns : goal.returns
returns c arrays have line branches vars order store apart same =
    any_order arrays (some_cell arrays have) (branch_works branches vars) order store apart same
    ∙ ap (λ w. last_writes (writes_of arrays w store)) (join_branches branches vars)
