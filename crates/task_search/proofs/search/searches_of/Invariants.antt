-- The tasks so far search the first trees, and there is room for the others.
use Rattle.std.proofs.Common.{◌≡◌, take, length, vec_len, vec_capacity}
use Rattle.std.specs.List.{AllZip}
use Rattle.task_search.specs.Searches.{IsSearchOf}
use Rattle.task_search.proofs.search.searches_of.Given as goal

abbrev pub invariant-loop-tree : goal.invariant-loop-tree
invariant-loop-tree g l =
    AllZip (IsSearchOf l.wanted l.levels) (take l.tree-index l.trees) l.searches.items
    × (vec_len l.searches ≡ l.tree-index)
    × (vec_capacity l.searches ≡ length l.trees)
