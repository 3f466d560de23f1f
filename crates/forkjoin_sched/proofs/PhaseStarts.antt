-- The store from which the jobs of a phase start.
use Rattle.std.proofs.Common.{◌≡◌, ℕ, zero, suc, ◌+◌, List, [], ◌∷◌, map, Some, slice_get, option_map, sym, ap, ◌∙◌}
use Rattle.std.proofs.lemmas.Option.{slice_get-map, same_Some}
use Rattle.array_meaning.specs.Stores.{Store}
use Rattle.array_jobs.specs.Works.{WorkTree, sites_of}
use Rattle.array_jobs.specs.Jobs.{JobParts, JobTree, job_of}
use Rattle.step_eval.specs.Nests.{NestedTree, jobs_in, piece_trees, earlier_sites, numbered}
use Rattle.forkjoin_sched.specs.Pools.{StartFrom, HaveOneStart}
use Rattle.forkjoin_sched.proofs.Starts.{one_start}

numbered_starts : (nested : NestedTree) (phase : ℕ) (store : Store) (place first : ℕ) (works : List WorkTree) (i : ℕ) (job : JobTree)
    → slice_get (numbered nested phase store place first works) i ≡ Some job → job.store ≡ store
numbered_starts nested phase store place first [] i job e = absurd cc
numbered_starts nested phase store place first (work ∷ works) zero job e = ap (λ (j : JobTree). j.store) (sym (same_Some _ job e))
numbered_starts nested phase store place first (work ∷ works) (suc i) job e = numbered_starts nested phase store (place + 1) (first + sites_of work) works i job e

jobs_start : (nested : NestedTree) (phase : ℕ) (store : Store) (jobs : List JobParts) → map job_of jobs ≡ jobs_in nested phase store → StartFrom store jobs
jobs_start nested phase store jobs same i job at =
    numbered_starts nested phase store 0 (nested.site + 1 + earlier_sites nested.construct phase) (piece_trees nested.construct phase) i (job_of job)
    (ap (λ l. slice_get l i) (sym same) ∙ slice_get-map job_of jobs i ∙ ap (option_map job_of) at)

-- All jobs of a phase start from one store.
pub jobs_start_alike : (nested : NestedTree) (phase : ℕ) (store : Store) (jobs : List JobParts) → map job_of jobs ≡ jobs_in nested phase store → HaveOneStart jobs
jobs_start_alike nested phase store jobs same = one_start store jobs (jobs_start nested phase store jobs same)
