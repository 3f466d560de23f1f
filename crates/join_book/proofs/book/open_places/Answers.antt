use Rattle.std.proofs.Common.{◌≡◌, Some, slice_get, arith, ap, ◌∙◌, subst, ◌++◌, ◌∷◌, []}
use borrow.Author.Count.{below_more}
use Rattle.std.proofs.lemmas.Option.{slice_get_within, get_or_from_slice_get}
use Rattle.array_jobs.specs.Jobs.{JobParts, IsFit, job_of}
use Rattle.join_book.specs.declared.place.Place.TheVariants as place
use Rattle.std.proofs.lemmas.List.{replicate_more}
use Rattle.join_book.proofs.book.open_places.Goals as goal

pub loop-job-preserved : goal.loop-job-preserved
loop-job-preserved c = record {
  all_open = c.in_ok-push.ensures.items ∙ ap (λ ps. ps ++ place.Open ∷ []) c.loop-job.invariant.all_open ∙ replicate_more c.loop-job.job-index place.Open;
  fit = below_more (λ i. (job : JobParts) → slice_get c.args.jobs.now i ≡ Some job → IsFit (job_of job)) c.loop-job.job-index c.loop-job.invariant.fit (λ job is.
      let same : c.job-item.result ≡ job = c.job-item.is ∙ get_or_from_slice_get c.args.jobs.now c.loop-job.job-index job c.job-item.result is in
      let P : JobParts → Type 0 = λ j. IsFit (job_of j) in subst P (c.job.view_is ∙ same) c.job.invariant);
}

pub returns-clause-fit : goal.returns-clause-fit
returns-clause-fit c = λ i job is. c.loop-job.invariant.fit i (let lt = slice_get_within c.args.jobs.now i job is in let end = c.loop-job-test.false in omega arith) job is
