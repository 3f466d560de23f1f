-- How a list is cut into ranges.
use Rattle.std.specs.Prelude.{ℕ, ◌-◌, List, take, drop}

-- The elements of a list from one index up to another.
abbrev pub between : {X : Type 0} → ℕ → ℕ → List X → List X
between low high xs = take (high - low) (drop low xs)
