-- The order in which a search visits a tree.
use Rattle.std.specs.Prelude.{List, ◌∷◌}
use Rattle.std.specs.List.{flat_map}
use Rattle.task_search.specs.declared.tree.Tree.{Tree}
use Rattle.task_search.specs.declared.tree.Tree.TheOpen.{Tree-F}
use Rattle.task_search.specs.declared.tree.Tree.TheFolds.{fold-Tree}

-- A value, and then the values of the trees below, one tree after another.
abbrev pub values_of : {T : Type 0} → Tree-F T (List T) → List T
values_of node = node.value ∷ flat_map (λ values. values) node.children.items

-- The values of a tree, each before those below it.
abbrev pub preorder : {T : Type 0} → Tree T → List T
preorder {T} = fold-Tree T (List T) values_of
