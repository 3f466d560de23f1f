-- The positions of the sites that a hart has to skip.
use Rattle.std.specs.Prelude.{◌≡◌, ℕ, ◌+◌, ◌<◌, ◌≤◌, List, Some}
use Rattle.array_meaning.specs.Stores.{Arrays, Store}
use Rattle.step_eval.specs.Rest.{WorkAt, rest_sites}
use Rattle.step_eval.specs.Passes.{pass_of}

-- A span that isn't empty, inside the sites that the walk has in and after the remaining works.
pub record IsWithinRest (next : ℕ) (rest : List WorkAt) (span : ℕ × ℕ) : Type 0 where
  pub some : span.0 < span.1
  pub low : next ≤ span.0
  pub high : span.1 ≤ next + rest_sites rest

-- Each span that a hart has to skip is such a span.
abbrev pub PassesAreWithin : Type 0
PassesAreWithin = (arrays : Arrays) (store : Store) (next : ℕ) (rest : List WorkAt) (span : ℕ × ℕ)
    → pass_of arrays store next rest ≡ Some span → IsWithinRest next rest span
