-- The least cell on which two pieces of a round overlap, by a test.
use Rattle.std.specs.Prelude.{◌≡◌, ◌≢◌, ℕ, zero, suc, ◌+◌, ◌<◌, Bool, false, not, ◌&&◌, ◌||◌, List, [], ◌∷◌, Option, Some, None, ℤ, ◌⊎◌, nat_eq, nat_lt, nat_le, slice_get, if◌then◌else◌}
use Rattle.array_meaning.specs.Stores.{Arrays, base_of, length_of, cell_of}
use Rattle.array_meaning.specs.Steps.{Steps}
use Rattle.array_meaning.specs.Touch.{Visit, walk, reads_of, changes_of}

-- The test decides whether an index of an array touches the cell.
abbrev pub covers : Arrays → List ℕ → Option ℤ → ℕ → Bool
covers arrays array (Some index) cell = nat_eq cell (cell_of arrays array false index)
covers arrays array None cell =
    nat_le (base_of arrays array) cell
    && nat_lt cell (base_of arrays array + length_of arrays array)

-- The test decides whether some visit writes the cell.
abbrev pub changed : Arrays → List Visit → ℕ → Bool
changed arrays [] cell = false
changed arrays (v ∷ more) cell =
    (v.writes && covers arrays v.array v.index cell) || changed arrays more cell

-- The test decides whether some visit reads the cell.
abbrev pub read : Arrays → List Visit → ℕ → Bool
read arrays [] cell = false
read arrays (v ∷ more) cell =
    (not v.writes && covers arrays v.array v.index cell) || read arrays more cell

-- The test decides whether a piece overlaps with an earlier one. The flags are whether some earlier piece changed the cell, or
-- read it.
abbrev pub overlaps : Arrays → Bool → Bool → List Steps → ℕ → Bool
overlaps arrays was_changed was_read [] cell = false
overlaps arrays was_changed was_read (piece ∷ more) cell =
    (changed arrays (walk arrays piece) cell && (was_read || was_changed)
    || read arrays (walk arrays piece) cell && was_changed)
    || overlaps arrays (was_changed || changed arrays (walk arrays piece) cell) (was_read
    || read arrays (walk arrays piece) cell) more cell

-- The first of so many numbers, from one on, that passes the test.
abbrev pub first_from : (ℕ → Bool) → ℕ → ℕ → Option ℕ
first_from test i zero = None
first_from test i (suc k) = if test i then Some i else first_from test (i + 1) k

-- The least of so many cells on which two pieces overlap.
abbrev pub overlap : Arrays → ℕ → List Steps → Option ℕ
overlap arrays cells pieces = first_from (overlaps arrays false false pieces) 0 cells

-- Two different pieces clash on the cell: one changes it, and the other reads or changes it. So the reported cell is defined
-- apart from the search for it (`overlap`).
pub record IsClash (arrays : Arrays) (pieces : List Steps) (cell : ℕ) : Type 0 where
  pub i : ℕ
  pub j : ℕ
  pub one : Steps
  pub other : Steps
  pub different : i ≢ j
  pub at_i : slice_get pieces i ≡ Some one
  pub at_j : slice_get pieces j ≡ Some other
  pub changes : changes_of arrays one cell
  pub touches : reads_of arrays other cell ⊎ changes_of arrays other cell

-- The reported cell is the least of so many cells on which two different pieces clash; none is reported if they clash on none.
abbrev pub IsLeastClash : Arrays → ℕ → List Steps → Option ℕ → Type 0
IsLeastClash arrays cells pieces None = (cell : ℕ) → cell < cells → ¬ IsClash arrays pieces cell
IsLeastClash arrays cells pieces (Some reported) =
    (reported < cells) × IsClash arrays pieces reported
    × ((cell : ℕ) → cell < reported → ¬ IsClash arrays pieces cell)
