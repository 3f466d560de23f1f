-- Arrays, loop variables and stores, and the values of expressions.
use Rattle.std.specs.Prelude.{ℕ, ◌+◌, ◌<◌, ◌≤◌, Bool, true, false, cond, ◌||◌, List, [], ◌∷◌, map, ℤ, pos, unsigned_abs, slice_index_or, slice_set}
use Rattle.std.specs.Int.{int_rem_euclid}
use Rattle.array_tree.specs.Equal.{name_eq}
use Rattle.array_tree.specs.Trees.{Expression, Number, Var, Read, Neg, Binary, Declaration}
use Rattle.array_meaning.specs.Bounds.{most_cells}
use Rattle.array_meaning.specs.Values.{wrapping_minus, applied}

-- Each array's name and length, in order of declaration.
abbrev pub Arrays : Type 0
Arrays = List (List ℕ × ℕ)

-- The variables of the loops around, each with its value, the innermost first.
abbrev pub Vars : Type 0
Vars = List (List ℕ × ℤ)

-- A store has the value of each cell. Cells are numbered from 0 in order of declaration.
abbrev pub Store : Type 0
Store = List ℤ

-- A write is a cell and what is written to it.
abbrev pub Write : Type 0
Write = ℕ × ℤ

-- The arrays are the declarations as pairs of a name and a length.
abbrev pub arrays_of : List Declaration → Arrays
arrays_of declarations = map (λ d. (d.name, unsigned_abs d.length)) declarations

-- The number of cells of the arrays.
abbrev pub cells_of : Arrays → ℕ
cells_of [] = 0
cells_of (a ∷ more) = a.1 + cells_of more

-- Each array has a cell.
abbrev pub HaveCells : Arrays → Type 0
HaveCells [] = Unit {0}
HaveCells (a ∷ more) = (0 < a.1) × HaveCells more

-- Each array has a cell, and all have at most 4,096.
pub record AreSized (arrays : Arrays) : Type 0 where
  pub each : HaveCells arrays
  pub whole : cells_of arrays ≤ most_cells

-- The value of the variable of the innermost loop with the name.
abbrev pub var_of : Vars → List ℕ → ℤ
var_of [] name = pos 0
var_of (v ∷ more) name = cond (name_eq v.0 name) v.1 (var_of more name)

-- The first cell of an array.
abbrev pub base_of : Arrays → List ℕ → ℕ
base_of [] name = 0
base_of (a ∷ more) name = cond (name_eq a.0 name) 0 (a.1 + base_of more name)

-- The length of an array, and 1 if no array has the name.
abbrev pub length_of : Arrays → List ℕ → ℕ
length_of [] name = 1
length_of (a ∷ more) name = cond (name_eq a.0 name) a.1 (length_of more name)

-- An index is dynamic if it contains an array read.
abbrev pub is_dynamic : Expression → Bool
is_dynamic (Number n) = false
is_dynamic (Var name) = false
is_dynamic (Read name index) = true
is_dynamic (Neg e) = is_dynamic e
is_dynamic (Binary op a b) = is_dynamic a || is_dynamic b

-- The value of a cell; 0 after the last cell.
abbrev pub at_cell : Store → ℕ → ℤ
at_cell store cell = slice_index_or store cell (pos 0)

-- The store after one write.
abbrev pub written : Store → ℕ → ℤ → Store
written store cell value = slice_set store cell value

-- The store after writes, one after another.
abbrev pub after : List Write → Store → Store
after [] store = store
after (w ∷ more) store = after more (written store w.0 w.1)

-- The position in an array of this length to which an index leads: for a dynamic index its Euclidean remainder.
abbrev pub place_of : ℕ → Bool → ℤ → ℕ
place_of length true index = unsigned_abs (int_rem_euclid index (pos length))
place_of length false index = unsigned_abs index

-- The cell to which an index of an array leads.
abbrev pub cell_of : Arrays → List ℕ → Bool → ℤ → ℕ
cell_of arrays name dynamic index =
    base_of arrays name + place_of (length_of arrays name) dynamic index

-- The value of an expression.
abbrev pub value_of : Arrays → Vars → Expression → Store → ℤ
value_of arrays vars (Number n) store = n
value_of arrays vars (Var name) store = var_of vars name
value_of arrays vars (Read name index) store =
    at_cell store (cell_of arrays name (is_dynamic index) (value_of arrays vars index store))
value_of arrays vars (Neg e) store = wrapping_minus (value_of arrays vars e store)
value_of arrays vars (Binary op a b) store =
    applied op (value_of arrays vars a store) (value_of arrays vars b store)
