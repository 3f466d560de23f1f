-- The marks that a walk through the pieces of a round makes.
-- Only the private contracts and the proofs of this crate need these.
use Rattle.std.specs.Prelude.{◌≡◌, ℕ, ◌+◌, cond, Bool, false, not, ◌||◌, List, [], ◌∷◌, length, replicate, Option, Some, None, ℤ, slice_set}
use Rattle.array_meaning.specs.Stores.{Arrays, length_of, cell_of, cells_of}
use Rattle.array_meaning.specs.Steps.{Steps}
use Rattle.array_meaning.specs.Touch.{Visit}
use Rattle.array_meaning.specs.Accepted.{is_inside}
use Rattle.site_walk.specs.Visits.{after}
use Rattle.site_walk.specs.declared.touched.Pieces.TheVariants.{One}
use Rattle.site_walk.specs.declared.touched.Touched.{Touched}
use Rattle.site_walk.specs.declared.table.Table.{Table}
use Rattle.site_walk.specs.Inside.Touched.{joined, clashes, touched_at, untouched}
use Rattle.array_eval.specs.Layouts.{number_of}
use Rattle.site_walk.specs.Inside.Numbers.{array_at}

-- A table for so many cells and so many arrays, without a mark.
abbrev pub nothing_done : ℕ → ℕ → Table
nothing_done cells arrays = record {
  cells = replicate cells untouched;
  everywhere = replicate arrays untouched;
  read = replicate arrays untouched;
  written = replicate arrays untouched;
  suspect = false;
}

-- A table of the same size, without a mark.
abbrev pub cleared : Table → Table
cleared table = record {
  cells = replicate (length table.cells) untouched;
  everywhere = replicate (length table.everywhere) untouched;
  read = replicate (length table.read) untouched;
  written = replicate (length table.written) untouched;
  suspect = false;
}

-- The table has an entry for each cell and for each array.
pub record HasPlaces (arrays : Arrays) (table : Table) : Type 0 where
  pub cells : length table.cells ≡ cells_of arrays
  pub everywhere : length table.everywhere ≡ length arrays
  pub read : length table.read ≡ length arrays
  pub written : length table.written ≡ length arrays

-- The layer with a further touch at an index.
abbrev pub added : ℕ → Touched → List Touched → List Touched
added place touch layer = slice_set layer place (joined touch (touched_at layer place))

-- The table with a touch of a cell by a static index of an array. An index outside its array is suspect, since its cell is
-- another array's.
unfoldable pub with_static : ℕ → ℕ → Bool → Touched → Table → Table
with_static number cell inside touch table =
    let all = joined touch (touched_at table.cells cell) in
    record {
      cells = slice_set table.cells cell all;
      everywhere = table.everywhere;
      read = cond all.written table.read (added number all table.read);
      written = cond all.written (added number all table.written) table.written;
      suspect = table.suspect || not inside
          || clashes (joined all (touched_at table.everywhere number));
    }

-- The table with a touch of all cells of an array.
unfoldable pub with_dynamic : ℕ → Touched → Table → Table
with_dynamic number touch table =
    let all = joined touch (touched_at table.everywhere number) in
    record {
      cells = table.cells;
      everywhere = slice_set table.everywhere number all;
      read = table.read;
      written = table.written;
      suspect = table.suspect || clashes (joined all (touched_at table.read number))
          || clashes (joined all (touched_at table.written number));
    }

-- The table with a visit of an array by an index.
abbrev pub with_touch : Arrays → Touched → List ℕ → Option ℤ → Table → Table
with_touch arrays touch array None table = with_dynamic (number_of arrays array) touch table
with_touch arrays touch array (Some index) table =
    with_static (number_of arrays array) (cell_of arrays array false index)
    (is_inside (length_of arrays array) (Some index)) touch table

-- The touch of a piece.
abbrev pub touch_of : ℕ → Bool → Touched
touch_of piece writes = record { by = One piece; written = writes }

-- The table with a visit of a piece.
abbrev pub with_visit : Arrays → ℕ → Table → Visit → Table
with_visit arrays piece table v = with_touch arrays (touch_of piece v.writes) v.array v.index table

-- The table with all that a piece does.
abbrev pub with_piece : Arrays → ℕ → Steps → Table → Table
with_piece arrays piece steps table = after (with_visit arrays piece) arrays steps table

-- The table with all that pieces do, numbered from one on.
abbrev pub with_pieces : Arrays → ℕ → List Steps → Table → Table
with_pieces arrays piece [] table = table
with_pieces arrays piece (steps ∷ more) table =
    with_pieces arrays (piece + 1) more (with_piece arrays piece steps table)

-- The touches of a cell, by static and by dynamic indexes.
abbrev pub done_at : Arrays → Table → ℕ → Touched
done_at arrays table cell =
    joined (touched_at table.cells cell) (touched_at table.everywhere (array_at arrays cell))
