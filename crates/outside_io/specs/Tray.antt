-- What contracts see of a sink in memory that fails at listed calls and where it is full.
use Rattle.std.specs.Prelude.{ℕ, List}

-- A sink in memory that fails at listed calls and when it is full.
pub record Tray : Type 0 where
  -- The bytes that it has taken, and how many it takes in all.
  pub taken : List ℕ
  pub room : ℕ
  -- How many bytes a call takes at most.
  pub most : ℕ
  -- The numbers of the calls that fail, counted from 1.
  pub failing : List ℕ
  -- How often it was called, and how often it has failed.
  pub calls : ℕ
  pub faults : ℕ
