-- What contracts see of a sink in memory: its room, and what it has taken while every piece fitted.
use Rattle.std.specs.Prelude.{ℕ, List, Option}

-- A sink in memory: its room, and the bytes that it has taken.
pub record Shelf : Type 0 where
  pub room : ℕ
  pub taken : Option (List ℕ)
