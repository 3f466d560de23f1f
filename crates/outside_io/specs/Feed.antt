-- What contracts see of a source in memory that fails at listed calls.
use Rattle.std.specs.Prelude.{ℕ, List}

-- A source in memory that fails at listed calls.
pub record Feed : Type 0 where
  -- The bytes that are left.
  pub left : List ℕ
  -- How many bytes a call gives at most.
  pub most : ℕ
  -- The numbers of the calls that fail, counted from 1.
  pub failing : List ℕ
  -- How often it was called, and how often it has failed.
  pub calls : ℕ
  pub faults : ℕ
