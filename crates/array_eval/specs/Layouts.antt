-- The positions of arrays, and the slots in which a name is searched.
use Rattle.std.specs.Prelude.{◌≡◌, ◌⊎◌, ℕ, suc, ◌+◌, ◌%◌, ◌<◌, ◌≤◌, cond, nat_eq, List, [], ◌∷◌, length, drop, slice_index_or}
use Rattle.array_tree.specs.Digest.{digest_of}
use Rattle.array_tree.specs.Equal.{name_eq}
use Rattle.array_meaning.specs.Bounds.{most_cells}
use Rattle.array_meaning.specs.Stores.{Arrays, AreSized, HaveCells, base_of, length_of, cells_of}
use Rattle.array_eval.specs.declared.layout.First.{First}

-- The index of the array with a name; the number of arrays if there is none.
abbrev pub number_of : Arrays → List ℕ → ℕ
number_of [] name = 0
number_of (a ∷ more) name = cond (name_eq a.0 name) 0 (1 + number_of more name)

-- The number of slots.
abbrev pub slot_count : ℕ
slot_count = 256

-- The slot of a name. Names with the same digest share it, and others may.
abbrev pub slot_of : List ℕ → ℕ
slot_of name = digest_of name % slot_count

-- The index of the slot's first array; the number of arrays if there is none.
abbrev pub first_in : ℕ → Arrays → ℕ
first_in slot [] = 0
first_in slot (a ∷ more) = cond (nat_eq (slot_of a.0) slot) 0 (suc (first_in slot more))

-- The number of cells of the arrays before the slot's first one.
abbrev pub cells_before : ℕ → Arrays → ℕ
cells_before slot [] = 0
cells_before slot (a ∷ more) = cond (nat_eq (slot_of a.0) slot) 0 (a.1 + cells_before slot more)

-- The first array of a slot.
abbrev pub at_slot : List First → ℕ → First
at_slot firsts slot = slice_index_or firsts slot (record { number = 0; base = 0 })

-- Each slot has the first of these arrays that belongs to it, if `count` arrays and `cells` cells come before them.
pub record AreFirsts (count cells : ℕ) (arrays : Arrays) (firsts : List First) : Type 0 where
  pub slots : length firsts ≡ slot_count
  pub number : (slot : ℕ) → slot < slot_count
      → (at_slot firsts slot).number ≡ count + first_in slot arrays
  pub base : (slot : ℕ) → slot < slot_count
      → (at_slot firsts slot).base ≡ cells + cells_before slot arrays

-- The search for a name may begin at this array: no array before it has the name.
pub record BeginsAt (arrays : Arrays) (name : List ℕ) (first : First) : Type 0 where
  pub within : first.number ≤ length arrays
  pub each : HaveCells (drop first.number arrays)
  pub whole : first.base + cells_of (drop first.number arrays) ≤ most_cells
  pub number : first.number + number_of (drop first.number arrays) name ≡ number_of arrays name
  pub base : first.base + base_of (drop first.number arrays) name ≡ base_of arrays name
  pub length : length_of (drop first.number arrays) name ≡ length_of arrays name

-- The invariant of a layout: its arrays have cells, and each slot has the first array of that slot, unless there are no slots.
pub record IsLaidOut (arrays : Arrays) (firsts : List First) (cells : ℕ) : Type 0 where
  pub sized : AreSized arrays
  pub right : (firsts ≡ []) ⊎ AreFirsts 0 0 arrays firsts
  pub whole : cells ≡ cells_of arrays
