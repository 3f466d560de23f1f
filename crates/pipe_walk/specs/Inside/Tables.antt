-- The table that a walk through the phases of a construct keeps.
-- Only the private contracts and the proofs of this crate need these.
use Rattle.std.specs.Prelude.{◌≡◌, ℕ, ◌<◌, false, ◌||◌, List, length, replicate, max, slice_index_or, slice_set}
use Rattle.array_meaning.specs.Stores.{Arrays, cells_of}
use Rattle.pipe_walk.specs.declared.touch.Touch.{Touch}
use Rattle.pipe_walk.specs.declared.past.Past.{Past}
use Rattle.pipe_walk.specs.Inside.Members.{joined, untouched, touch_in, starts_below, last_of}
use Rattle.pipe_walk.specs.Inside.Owners.{owners_from}

-- The past of a cell without an earlier phase.
abbrev pub no_past : Past
no_past = record { toucher = 0; changer = 0; crossed = false }

-- The past with one more phase, in which the cell has this touch.
abbrev pub passed : Past → Touch → Past
passed past touch = record {
  toucher = max past.toucher (max (last_of touch.read) (last_of touch.changed));
  changer = max past.changer (last_of touch.changed);
  crossed = past.crossed
      || (starts_below past.toucher touch.changed || starts_below past.changer touch.read);
}

-- The parts of a table that contracts see. For the current phase it has the touches of each cell by static indexes, and the
-- touches of all cells of each array by dynamic indexes. For the earlier phases it has the past of each cell. It also has the
-- array of each cell.
pub record TableParts : Type 0 where
  pub cells : List Touch
  pub everywhere : List Touch
  pub past : List Past
  pub owners : List ℕ

-- The past of a cell, from the earlier phases.
abbrev pub past_in : List Past → ℕ → Past
past_in list cell = slice_index_or list cell no_past

-- The touches of a cell in the current phase, by static and by dynamic indexes.
abbrev pub touch_at : TableParts → ℕ → Touch
touch_at table cell =
    joined (touch_in table.cells cell) (touch_in table.everywhere (slice_index_or table.owners cell 0))

-- The list with a further touch at an index.
abbrev pub added : ℕ → Touch → List Touch → List Touch
added place more list = slice_set list place (joined more (touch_in list place))

-- The table has the sizes of these arrays.
pub record IsFor (arrays : Arrays) (table : TableParts) : Type 0 where
  pub cells : length table.cells ≡ cells_of arrays
  pub everywhere : length table.everywhere ≡ length arrays
  pub past : length table.past ≡ cells_of arrays
  pub owners : table.owners ≡ owners_from 0 arrays

-- The table without a touch in the current phase.
abbrev pub blank : TableParts → TableParts
blank table = record table {
  cells = replicate (length table.cells) untouched;
  everywhere = replicate (length table.everywhere) untouched;
}

-- The table without a touch in the current phase, and without an earlier phase.
abbrev pub cleared : TableParts → TableParts
cleared table = record (blank table) { past = replicate (length table.past) no_past }

-- The current phase has joined the earlier ones.
pub record IsSettled (before after : TableParts) : Type 0 where
  pub cells : after.cells ≡ replicate (length before.cells) untouched
  pub everywhere : after.everywhere ≡ replicate (length before.everywhere) untouched
  pub owners : after.owners ≡ before.owners
  pub places : length after.past ≡ length before.past
  pub past : (cell : ℕ) → cell < length before.past →
      past_in after.past cell ≡ passed (past_in before.past cell) (touch_at before cell)
