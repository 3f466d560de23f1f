-- Cells on pages.
use Rattle.std.specs.Int.{div_ceil}
use Rattle.std.specs.Prelude.{◌≡◌, ℕ, ◌+◌, ◌-◌, ◌*◌, ◌<◌, List, [], ◌∷◌, ◌++◌, ℤ, pos, All, length, replicate, take, drop, Bool, true, false, slice_index_or}

-- The number of cells of a page.
abbrev pub cells_on_page : ℕ
cells_on_page = 64

-- The cells, followed by zeros to the end of a page.
abbrev pub padded : List ℤ → List ℤ
padded cells = cells ++ replicate (cells_on_page - length cells) (pos 0)

-- The cells of pages, one page after another.
abbrev pub cells_on : List (List ℤ) → List ℤ
cells_on [] = []
cells_on (page ∷ more) = page ++ cells_on more

-- The number of pages that so many cells need.
abbrev pub pages_for : ℕ → ℕ
pages_for count = div_ceil count cells_on_page

-- So many cells are on these pages: no page is superfluous, and zeros end the last one.
pub record ArePages (count : ℕ) (pages : List (List ℤ)) : Type 0 where
  pub whole : All (λ page. length page ≡ cells_on_page) pages
  pub fewest : length pages ≡ pages_for count
  pub zeros : drop count (cells_on pages) ≡ replicate (cells_on_page * length pages - count) (pos 0)

-- The cells of the page with this number.
abbrev pub page_at : ℕ → List ℤ → List ℤ
page_at number cells = take cells_on_page (drop (cells_on_page * number) cells)

-- The cells of a page are those of a store, as far as the store goes.
abbrev pub IsPageOf : List ℤ → ℕ → List ℤ → Type 0
IsPageOf cells number page = (place : ℕ) → place < cells_on_page
    → cells_on_page * number + place < length cells
    → slice_index_or page place (pos 0) ≡ slice_index_or cells (cells_on_page * number + place) (pos 0)

-- For each page, a flag whether one of its cells may have changed: pages without a flag are unchanged.
pub record AreChanged (changed : List Bool) (before after : List ℤ) : Type 0 where
  pub as_many : length before ≡ length after
  pub marks : length changed ≡ pages_for (length after)
  pub kept : (number : ℕ) → slice_index_or changed number true ≡ false
      → page_at number before ≡ page_at number after
