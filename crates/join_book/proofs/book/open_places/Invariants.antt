use Rattle.std.proofs.Common.{◌≡◌, ℕ, ◌<◌, slice_get, Some, replicate}
use Rattle.array_jobs.specs.Jobs.{JobParts, IsFit, job_of}
use Rattle.join_book.specs.declared.place.Place.TheVariants as place
use Rattle.join_book.proofs.book.open_places.Given as goal

abbrev pub invariant-loop-job : goal.invariant-loop-job
invariant-loop-job l = record {
  all_open : l.places.items ≡ replicate l.job-index place.Open;
  fit : (i : ℕ) → i < l.job-index → (job : JobParts) → slice_get l.jobs i ≡ Some job → IsFit (job_of job);
}
