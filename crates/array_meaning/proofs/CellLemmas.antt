-- Arrays that have cells.
use Rattle.std.proofs.Common.{◌≡◌, ℕ, ◌<◌, Bool, true, false, cond, List, [], ◌∷◌, refl, ap, arith}
use Rattle.array_tree.specs.Trees.{Sequences, no_more, beside}
use Rattle.array_tree.specs.Equal.{name_eq}
use Rattle.array_meaning.specs.Stores.{Arrays, Vars, HaveCells, length_of}
use Rattle.array_meaning.specs.Steps.{followed_by, join}
use Rattle.array_meaning.specs.Work.{sequence_work, branches_work}
use Rattle.array_meaning.specs.Sites.{branch_works}

-- The array of a name has a cell: a name without an array has length 1.
pub some_cell : (arrays : Arrays) → HaveCells arrays → (name : List ℕ) → 0 < length_of arrays name
some_cell [] have name = omega arith
some_cell (a ∷ more) have name = cases (name_eq a.0 name) (some_cell more have.1 name)
  where
    cases : (b : Bool) → 0 < length_of more name → 0 < cond b a.1 (length_of more name)
    cases true rest = have.0
    cases false rest = rest

-- The branches' works in sequence are the work of the `par`.
pub join_branches : (branches : Sequences) (vars : Vars) → join (branch_works branches vars) ≡ branches_work branches vars
join_branches no_more vars = refl
join_branches (beside first rest) vars = ap (followed_by (sequence_work first vars)) (join_branches rest vars)
