-- The state of a hart that computes a construct itself, phase after phase.
-- Only private contracts and proofs need these, here and in the crates above.
use Rattle.std.specs.Prelude.{◌≡◌, ℕ, List, [], ◌∷◌, ◌++◌, length}
use Rattle.array_meaning.specs.Stores.{Write}
use Rattle.array_eval.specs.Traces.{Trace, marked}
use Rattle.array_jobs.specs.Jobs.{JobTree}
use Rattle.array_jobs.specs.PieceParts.{piece_of_job}
use Rattle.step_eval.specs.Nests.{NestedTree}
use Rattle.step_eval.specs.Phases.{store_before, writes_before}

-- The writes of jobs, one after another.
abbrev pub writes_of_jobs : List JobTree → List Write
writes_of_jobs [] = []
writes_of_jobs (job ∷ more) = piece_of_job job ++ writes_of_jobs more

-- The phases before this one are done: the store has their results, and their writes are marked.
pub record HasReached (nested : NestedTree) (phase : ℕ) (store : Trace) : Type 0 where
  pub cells : store.cells ≡ store_before nested phase
  pub written : marked store ≡ writes_before nested phase
  pub marks : length store.marks ≡ length store.cells
  pub same : length store.cells ≡ length nested.store
