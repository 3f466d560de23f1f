-- The cells that steps read and change, over both sides of each choice.
use Rattle.std.specs.Prelude.{◌≡◌, ℕ, ◌+◌, ◌<◌, ◌≤◌, Bool, true, false, List, [], ◌∷◌, ◌++◌, Option, Some, None, ℤ, ◌⊎◌, if◌then◌else◌}
use Rattle.array_tree.specs.Trees.{Expression, Number, Var, Read, Neg, Binary}
use Rattle.array_meaning.specs.Stores.{Arrays, Vars, is_dynamic, base_of, length_of, cell_of, value_of}
use Rattle.array_meaning.specs.Steps.{Steps, Done, Set, Choose}

-- A visit of the walk has its line, whether it writes, the array, and the index if it is static.
pub record Visit : Type 0 where
  pub line : ℕ
  pub writes : Bool
  pub array : List ℕ
  pub index : Option ℤ

-- The visit of an index of an array. A static index needs no store.
abbrev pub visit : Arrays → ℕ → Bool → Vars → List ℕ → Expression → Visit
visit arrays line writes vars array index = record {
  line = line;
  writes = writes;
  array = array;
  index = if is_dynamic index then None else Some (value_of arrays vars index []);
}

-- The reads of an expression from left to right, an index before its read.
abbrev pub reads_in : Arrays → ℕ → Vars → Expression → List Visit
reads_in arrays line vars (Number n) = []
reads_in arrays line vars (Var name) = []
reads_in arrays line vars (Read array index) =
    reads_in arrays line vars index ++ visit arrays line false vars array index ∷ []
reads_in arrays line vars (Neg e) = reads_in arrays line vars e
reads_in arrays line vars (Binary op a b) =
    reads_in arrays line vars a ++ reads_in arrays line vars b

-- The walk through steps. An assignment visits the reads of the index, those of the value, and the target. A choice visits the
-- reads of the condition, the first side and the second.
abbrev pub walk : Arrays → Steps → List Visit
walk arrays Done = []
walk arrays (Set line vars array index value rest) =
    reads_in arrays line vars index
    ++ (reads_in arrays line vars value
    ++ (visit arrays line true vars array index ∷ walk arrays rest))
walk arrays (Choose line vars test left right rest) =
    reads_in arrays line vars test ++ (walk arrays left ++ (walk arrays right ++ walk arrays rest))

-- A static index touches its one cell, a dynamic one every cell of the array.
abbrev pub Covers : Arrays → List ℕ → Option ℤ → ℕ → Type 0
Covers arrays array (Some index) cell = cell ≡ cell_of arrays array false index
Covers arrays array None cell =
    (base_of arrays array ≤ cell) × (cell < base_of arrays array + length_of arrays array)

-- Some visit that writes, or one that reads, touches the cell.
abbrev pub Touches : Arrays → Bool → List Visit → ℕ → Type 0
Touches arrays writes [] cell = ⊥
Touches arrays writes (v ∷ more) cell =
    (v.writes ≡ writes) × Covers arrays v.array v.index cell ⊎ Touches arrays writes more cell

-- The cells that the steps read.
abbrev pub reads_of : Arrays → Steps → ℕ → Type 0
reads_of arrays steps cell = Touches arrays false (walk arrays steps) cell

-- The cells that the steps change.
abbrev pub changes_of : Arrays → Steps → ℕ → Type 0
changes_of arrays steps cell = Touches arrays true (walk arrays steps) cell

-- Neither changes a cell that the other reads or changes.
pub record IsSeparate (arrays : Arrays) (a b : Steps) : Type 0 where
  pub left : (cell : ℕ) → changes_of arrays a cell
      → reads_of arrays b cell ⊎ changes_of arrays b cell → ⊥
  pub right : (cell : ℕ) → changes_of arrays b cell
      → reads_of arrays a cell ⊎ changes_of arrays a cell → ⊥

-- The piece is separate from each of these.
abbrev pub IsSeparateFrom : Arrays → Steps → List Steps → Type 0
IsSeparateFrom arrays a [] = Unit {0}
IsSeparateFrom arrays a (b ∷ more) = IsSeparate arrays a b × IsSeparateFrom arrays a more

-- Each two of them are separate.
abbrev pub IsApart : Arrays → List Steps → Type 0
IsApart arrays [] = Unit {0}
IsApart arrays (a ∷ more) = IsSeparateFrom arrays a more × IsApart arrays more
