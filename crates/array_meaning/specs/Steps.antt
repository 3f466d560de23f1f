-- The steps of work, with its loops unrolled: assignments and choices, one after another.
use Rattle.std.specs.Prelude.{ℕ, cond, List, [], ◌∷◌, ◌++◌}
use Rattle.array_tree.specs.Trees.{Expression}
use Rattle.array_meaning.specs.Values.{holds}
use Rattle.array_meaning.specs.Stores.{Arrays, Vars, Store, Write, is_dynamic, cell_of, value_of, written, after}

-- Steps are done, or an assignment and then the rest, or one of two sides and then the rest. Each step keeps the loop variables
-- around it, so that it needs only a store.
pub data Steps : Type 0 where
  Done : Steps
  Set : (line : ℕ) (vars : Vars) (array : List ℕ) (index value : Expression) (rest : Steps) → Steps
  Choose : (line : ℕ) (vars : Vars) (test : Expression) (left right rest : Steps) → Steps

-- Some steps follow others.
abbrev pub followed_by : Steps → Steps → Steps
followed_by Done next = next
followed_by (Set line vars array index value rest) next =
    Set line vars array index value (followed_by rest next)
followed_by (Choose line vars test left right rest) next =
    Choose line vars test left right (followed_by rest next)

-- The steps of a list run one after another.
abbrev pub join : List Steps → Steps
join [] = Done
join (steps ∷ more) = followed_by steps (join more)

-- The writes of steps, in their order. An assignment computes index and value and then writes. One side of a choice runs.
abbrev pub writes_of : Arrays → Steps → Store → List Write
writes_of arrays Done store = []
writes_of arrays (Set line vars array index value rest) store =
    let cell = cell_of arrays array (is_dynamic index) (value_of arrays vars index store) in
    let number = value_of arrays vars value store in
    (cell, number) ∷ writes_of arrays rest (written store cell number)
writes_of arrays (Choose line vars test left right rest) store =
    let side = cond (holds (value_of arrays vars test store)) (writes_of arrays left store)
    (writes_of arrays right store) in
    side ++ writes_of arrays rest (after side store)

-- The store after the steps.
abbrev pub exec : Arrays → Steps → Store → Store
exec arrays steps store = after (writes_of arrays steps store) store
