-- The models of overlays and variables.
use Rattle.std.specs.Prelude.{◌≡◌, ◌<◌, ◌≤◌, ◌⊎◌, ℕ, suc, cond, List, [], ◌∷◌, ℤ, pos, nat_lt, Option, Some, None, IsSome, length, slice_index_or, slice_set, insert}
use Rattle.array_meaning.specs.Pieces.{lay, value_at}
use Rattle.array_tree.specs.Equal.{name_eq}
use Rattle.array_meaning.specs.Stores.{Vars, Write}

-- The count of numbers for the cell of a pair: the numbers of 16 bits.
abbrev pub cell_numbers : ℕ
cell_numbers = 65536

-- Pairs of a cell and a value, with rising cells, and the number of pairs for which there is room.
pub record Laid : Type 0 where
  pub pairs : List (ℕ × ℤ)
  pub room : ℕ

-- The number of pairs at the front with a smaller cell.
abbrev pub place_in : ℕ → List Write → ℕ
place_in cell [] = 0
place_in cell (w ∷ more) = cond (nat_lt w.0 cell) (suc (place_in cell more)) 0

-- The value of the first variable with the name.
abbrev pub bound_to : Vars → List ℕ → Option ℤ
bound_to [] name = None
bound_to (v ∷ more) name = cond (name_eq v.0 name) (Some v.1) (bound_to more name)

-- One more pair of the cell fits without an allocation: the cell has a pair, or there are fewer pairs than room.
abbrev pub HasRoom : ℕ → List Write → ℕ → Type 0
HasRoom cell pairs room = IsSome (value_at pairs cell) ⊎ (length pairs < room)

-- The pair of the cell is at the index: its value is there, and another value replaces it there.
pub record StandsAt (cell : ℕ) (pairs : List Write) (place : ℕ) : Type 0 where
  pub inside : place < length pairs
  pub value : value_at pairs cell ≡ Some (slice_index_or pairs place (0, pos 0)).1
  pub laid : (value : ℤ) → slice_set pairs place (cell, value) ≡ lay cell value pairs

-- The cell has no pair, and its pair would be at the index.
pub record WouldStandAt (cell : ℕ) (pairs : List Write) (place : ℕ) : Type 0 where
  pub within : place ≤ length pairs
  pub none : value_at pairs cell ≡ None
  pub laid : (value : ℤ) → insert pairs place (cell, value) ≡ lay cell value pairs
