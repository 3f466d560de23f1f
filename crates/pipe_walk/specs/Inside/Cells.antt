-- The touches of cells, with a list of those that were touched.
-- Only the private contracts and the proofs of this crate need these.
use Rattle.std.specs.Prelude.{◌≡◌, ℕ, ◌<◌, Bool, false, ◌||◌, nat_eq, List, [], ◌∷◌, length, replicate}
use Rattle.pipe_walk.specs.declared.touch.Touch.{Touch}
use Rattle.pipe_walk.specs.declared.past.Past.{Past}
use Rattle.pipe_walk.specs.Inside.Members.{untouched, touch_in}
use Rattle.pipe_walk.specs.Inside.Tables.{no_past, passed, past_in}

-- For each cell, the touches in the current phase and its past; the list of the cells that were touched; and whether pieces may
-- have crossed on a cell.
pub record CellParts : Type 0 where
  pub touches : List Touch
  pub past : List Past
  pub listed : List ℕ
  pub crossed : Bool

-- Whether the cell is in the list.
abbrev pub is_listed : List ℕ → ℕ → Bool
is_listed [] cell = false
is_listed (first ∷ more) cell = nat_eq first cell || is_listed more cell

-- A cell outside the list has no touch and no past.
abbrev pub IsBlankOutside : List ℕ → List Touch → List Past → Type 0
IsBlankOutside listed touches past = (cell : ℕ) → is_listed listed cell ≡ false →
    (touch_in touches cell ≡ untouched) × (past_in past cell ≡ no_past)

-- All touched cells are listed.
abbrev pub AreListed : CellParts → Type 0
AreListed c = IsBlankOutside c.listed c.touches c.past

-- There are as many touches as pasts, and no pieces crossed where none may have.
pub record AreCells (c : CellParts) : Type 0 where
  pub size : length c.touches ≡ length c.past
  pub noted : c.crossed ≡ false → (cell : ℕ) → (past_in c.past cell).crossed ≡ false

-- The current phase, in which each cell has this touch, has joined the earlier ones.
pub record AreSettled (before after : CellParts) (touch : ℕ → Touch) : Type 0 where
  pub touches : after.touches ≡ replicate (length before.touches) untouched
  pub places : length after.past ≡ length before.past
  pub past : (cell : ℕ) → cell < length before.past → past_in after.past cell ≡ passed (past_in before.past cell) (touch cell)

-- As many cells without a touch and a past.
abbrev pub blank_cells : CellParts → CellParts
blank_cells c = record {
  touches = replicate (length c.touches) untouched;
  past = replicate (length c.past) no_past;
  listed = [];
  crossed = false;
}

-- Unless there may be touched cells outside the list, all touched cells are listed, and no array was touched everywhere.
abbrev pub IsListedUnless : Bool → List Touch → CellParts → Type 0
IsListedUnless unlisted everywhere cells = unlisted ≡ false → AreListed cells × ((number : ℕ) → touch_in everywhere number ≡ untouched)
