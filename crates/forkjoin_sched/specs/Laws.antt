-- The meaning of the collected pieces of a construct.
use Rattle.std.specs.Prelude.{◌≡◌, ℕ, ◌<◌, map}
use Rattle.array_meaning.specs.Stores.{Store}
use Rattle.array_jobs.specs.Jobs.{job_of}
use Rattle.join_book.specs.Books.{BookParts, all_writes}
use Rattle.step_eval.specs.Nests.{NestedTree, IsFitNest, phases_of, jobs_in, nested_writes}
use Rattle.step_eval.specs.Phases.{phase_writes}

-- The writes of a book of the jobs of one phase are those of the phase.
abbrev pub BooksGivePhases : Type 0
BooksGivePhases = (nested : NestedTree) → IsFitNest nested → (phase : ℕ) (store : Store)
    → phase < phases_of nested.construct →
    (book : BookParts) → map job_of book.jobs ≡ jobs_in nested phase store
    → all_writes book ≡ phase_writes nested phase store

-- The writes of a pool of the jobs of a construct with one phase, as a `par` is, are those of the construct, which its machine
-- awaits.
abbrev pub PoolsGiveConstructs : Type 0
PoolsGiveConstructs = (nested : NestedTree) → IsFitNest nested → phases_of nested.construct ≡ 1 →
    (book : BookParts) → map job_of book.jobs ≡ jobs_in nested 0 nested.store
    → all_writes book ≡ nested_writes nested
