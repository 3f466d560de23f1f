-- The making of a board for C.
use Rattle.std.specs.Prelude.{◌≡◌, ◌⊎◌, ℕ, ◌≤◌, List, length}
use denote.RawPtr.{Ptr}

-- There are 1 to 64 harts and 1 to 64 levels.
abbrev pub IsSize : ℕ → ℕ → Type 0
IsSize harts levels = ((1 ≤ harts) × (harts ≤ 64)) × ((1 ≤ levels) × (levels ≤ 64))

-- A board of a valid size was made, or an allocation failed, or the size is invalid. If no board was made, the array of the
-- harts' pointers is unchanged.
abbrev pub MakesOrKeeps : ℕ → List Ptr → ℕ → List Ptr → Type 0
MakesOrKeeps levels before status after =
    (((status ≡ 0) × IsSize (length before) levels)
    ⊎ (((status ≡ 11) × IsSize (length before) levels × (after ≡ before))
    ⊎ ((status ≡ 12) × ((IsSize (length before) levels → ⊥) × (after ≡ before)))))
    × (length after ≡ length before)
