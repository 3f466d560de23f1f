-- The last value of each cell among writes, in rising order; and pieces merged.
use Rattle.std.specs.Prelude.{◌≡◌, ℕ, ◌<◌, cond, Option, Some, None, List, [], ◌∷◌, nat_lt, nat_eq, ℤ, ◌⊎◌}
use Rattle.std.specs.Option.{option_or}
use Rattle.array_meaning.specs.Stores.{Arrays, Store, Write}
use Rattle.array_meaning.specs.Steps.{Steps, writes_of}

-- A rising list with one more write, which replaces an earlier write to its cell.
abbrev pub lay : ℕ → ℤ → List Write → List Write
lay cell value [] = (cell, value) ∷ []
lay cell value (w ∷ more) =
    cond (nat_lt cell w.0) ((cell, value) ∷ w ∷ more)
    (cond (nat_eq cell w.0) ((cell, value) ∷ more) (w ∷ lay cell value more))

-- Several writes are laid over these, one after another.
abbrev pub lays : List Write → List Write → List Write
lays [] laid = laid
lays (w ∷ more) laid = lays more (lay w.0 w.1 laid)

-- Each cell that was written, with its last value, in rising order.
abbrev pub last_writes : List Write → List Write
last_writes writes = lays writes []

-- What steps write from a store: each cell with its last value, in rising order.
abbrev pub piece_of : Arrays → Steps → Store → List Write
piece_of arrays steps store = last_writes (writes_of arrays steps store)

-- Pieces are merged one after another.
abbrev pub merged : List (List Write) → List Write → List Write
merged [] laid = laid
merged (piece ∷ more) laid = merged more (lays piece laid)

-- The value of a cell in a list that has each cell at most once.
abbrev pub value_at : List Write → ℕ → Option ℤ
value_at [] cell = None
value_at (w ∷ more) cell = cond (nat_eq w.0 cell) (Some w.1) (value_at more cell)

-- The value that writes leave at a cell: the last value written to it.
abbrev pub last_value : List Write → ℕ → Option ℤ
last_value [] cell = None
last_value (w ∷ more) cell =
    option_or (last_value more cell) (cond (nat_eq w.0 cell) (Some w.1) None)

-- Each cell of the list is above this one.
abbrev pub IsAbove : ℕ → List Write → Type 0
IsAbove cell [] = Unit {0}
IsAbove cell (w ∷ more) = (cell < w.0) × IsAbove cell more

-- The cells rise, so each occurs once.
abbrev pub IsRising : List Write → Type 0
IsRising [] = Unit {0}
IsRising (w ∷ more) = IsAbove w.0 more × IsRising more

-- The element is a member of the list.
abbrev pub IsMember : {A : Type 0} → A → List A → Type 0
IsMember x [] = ⊥
IsMember x (y ∷ more) = (y ≡ x) ⊎ IsMember x more

-- Two lists have the same members, in any order and any number of times.
pub record HaveSameMembers (xs ys : List Steps) : Type 0 where
  pub to : (x : Steps) → IsMember x xs → IsMember x ys
  pub from : (x : Steps) → IsMember x ys → IsMember x xs
