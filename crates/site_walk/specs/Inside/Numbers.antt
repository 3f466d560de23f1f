-- The array that a cell belongs to.
-- Only the private contracts and the proofs of this crate need these.
use Rattle.std.specs.Prelude.{ℕ, ◌+◌, ◌-◌, cond, nat_lt, [], ◌∷◌}
use Rattle.array_meaning.specs.Stores.{Arrays}

-- The index of the array that a cell belongs to; the number of arrays after the last cell.
abbrev pub array_at : Arrays → ℕ → ℕ
array_at [] cell = 0
array_at (a ∷ more) cell = cond (nat_lt cell a.1) 0 (1 + array_at more (cell - a.1))
