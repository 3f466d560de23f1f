-- Pages that were copied, and the view over a store: a page with a copy shows the copy.
use Rattle.std.specs.List.{range_with_len}
use Rattle.std.specs.Prelude.{◌≡◌, ℕ, zero, suc, ◌+◌, ◌/◌, ◌%◌, ◌<◌, ◌≤◌, Bool, false, List, [], ◌∷◌, Option, Some, None, option_map, length, map, slice_get, slice_index_or, slice_set}
use Rattle.array_meaning.specs.Stores.{Store, at_cell}
use Rattle.array_eval.specs.Pages.{cells_on_page}
use Rattle.array_eval.specs.Traces.{Trace}

-- The copy of a slot: none at 0, otherwise the copy at the index before the slot's value.
abbrev pub copy_at : {A : Type 0} → List A → ℕ → Option A
copy_at copies zero = None
copy_at copies (suc place) = slice_get copies place

-- The number of entries that are 0.
abbrev pub free_in : List ℕ → ℕ
free_in [] = 0
free_in (zero ∷ slots) = suc (free_in slots)
free_in (suc place ∷ slots) = free_in slots

-- Slots of pages for so many copies: each slot's value is at most the number of copies, no two slots have the same copy, and
-- each copy has a slot.
pub record AreSlots (slots : List ℕ) (copies : ℕ) : Type 0 where
  pub there : (number : ℕ) → slice_index_or slots number 0 ≤ copies
  pub apart : (a b : ℕ) → slice_index_or slots a 0 ≡ slice_index_or slots b 0
      → 0 < slice_index_or slots a 0 → a ≡ b
  pub free : copies + free_in slots ≡ length slots

-- The test decides whether a cell is marked.
abbrev pub mark_at : List Bool → ℕ → Bool
mark_at marks cell = slice_index_or marks cell false

-- A copy has all cells of a page.
pub record IsWhole (page : Trace) : Type 0 where
  pub cells : length page.cells ≡ cells_on_page
  pub marks : length page.marks ≡ cells_on_page

-- The copy of one page is changed.
abbrev pub changed_copy : (Trace → Trace) → ℕ → List (Option Trace) → List (Option Trace)
changed_copy change number copies =
    slice_set copies number (option_map change (slice_index_or copies number None))

-- The value in a page's copy, or the value below if the page has no copy.
abbrev pub seen_in : {A : Type 0} → (Trace → A) → A → Option Trace → A
seen_in own below None = below
seen_in own below (Some page) = own page

-- The values of so many cells: in a page with a copy the copy's, otherwise the value below.
abbrev pub seen : {A : Type 0} → (Trace → ℕ → A) → (ℕ → A) → List (Option Trace) → ℕ → List A
seen own below copies count = map (λ cell. seen_in (λ page. own page (cell % cells_on_page))
    (below cell) (slice_index_or copies (cell / cells_on_page) None)) (range_with_len 0 count)

-- The values of copies over a store, and the marks of the cells.
abbrev pub over_store : Store → List (Option Trace) → Trace
over_store store copies = record {
  cells = seen (λ page. at_cell page.cells) (at_cell store) copies (length store);
  marks = seen (λ page. mark_at page.marks) (λ cell. false) copies (length store);
}
