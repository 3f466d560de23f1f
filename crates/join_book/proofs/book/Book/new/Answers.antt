use Rattle.std.proofs.Common.{◌≡◌, ap, ◌∙◌, subst, ℕ, List, Some, slice_get, length, replicate}
use Rattle.array_jobs.specs.Jobs.{JobParts, IsFit, job_of}
use Rattle.join_book.specs.declared.place.Place.TheVariants as place
use Rattle.join_book.proofs.BookLemmas.{kept_open, open_model}
use Rattle.join_book.proofs.book.Book.new.Goals as goal

pub invariant_of-result : goal.invariant_of-result
invariant_of-result c =
    let P : List JobParts → Type 0 = λ js. (i : ℕ) → (job : JobParts) → slice_get js i ≡ Some job → IsFit (job_of job) in
    let fit = subst P c.deref.ensures.value c.in_ok-places.ensures.fit in
    kept_open c.args.jobs.items c.in_ok-places.places.items c.requires fit
    (c.in_ok-places.ensures.all_open ∙ ap (λ js. replicate (length js) place.Open) c.deref.ensures.value)

pub returns : goal.returns
returns c = open_model c.args.jobs.items c.in_ok-places.places.items
    (c.in_ok-places.ensures.all_open ∙ ap (λ js. replicate (length js) place.Open) c.deref.ensures.value)
