-- The array that each cell belongs to.
-- Only the private contracts and the proofs of this crate need these.
use Rattle.std.specs.Prelude.{ℕ, ◌+◌, List, [], ◌∷◌, ◌++◌, replicate}
use Rattle.array_meaning.specs.Stores.{Arrays}

-- For each cell the index of its array, if the first array has this index.
abbrev pub owners_from : ℕ → Arrays → List ℕ
owners_from number [] = []
owners_from number (a ∷ more) = replicate a.1 number ++ owners_from (number + 1) more
