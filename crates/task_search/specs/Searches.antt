-- The tasks of a search.
use Rattle.std.specs.Prelude.{◌≡◌, ℕ}
use Rattle.task_search.specs.declared.search.Search.{Search}
use Rattle.task_search.specs.declared.tree.Tree.{Tree}

-- The task searches this tree for what is wanted, with so many levels of tasks inside.
abbrev pub IsSearchOf : {T W : Type 0} → W → ℕ → Tree T → Search T W → Type 0
IsSearchOf wanted levels tree search =
    (search.tree.now ≡ tree) × (search.wanted.now ≡ wanted) × (search.levels ≡ levels)
