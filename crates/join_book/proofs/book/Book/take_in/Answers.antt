use Rattle.std.proofs.Common.{ap, ◌∙◌, sym, subst, length, List, slice_get, slice_set}
use Rattle.array_jobs.specs.Jobs.{JobParts, IsFit, job_of}
use Rattle.join_book.specs.declared.place.Place.TheVariants as variant
use Rattle.join_book.proofs.BookLemmas.{kept_put, book_model, put_model}
use Rattle.join_book.proofs.book.Book.take_in.Goals as goal

pub invariant_of-self : goal.invariant_of-self
invariant_of-self c =
    let own = c.requires.place in
    let jobs = ap (λ b. b.jobs) c.self.view_is in
    let job = ap (λ p. p.job) c.piece.view_is in
    let place = c.from-place.ensures ∙ ap (λ (j : JobParts). j.place) c.job.view_is in
    let there = ap (λ (js : List JobParts). slice_get js c.from-place.result) jobs
    ∙ ap (slice_get c.args.self.now.jobs) (place ∙ ap (λ (j : JobParts). j.place) job) ∙ own.1 in
    kept_put c.self.inside.jobs.items c.self.inside.places.items c.from-place.result own.0 c.piece.inside.job c.piece.inside.written c.self.invariant there
    (sym place) (own.2 ∙ ap (λ (j : JobParts). length j.store) (sym job)) (subst (λ (j : JobParts). IsFit (job_of j)) c.job.view_is c.job.invariant) c.piece.invariant

pub returns : goal.returns
returns c =
    let jobs = c.self.inside.jobs.items in
    let filled = slice_set c.self.inside.places.items c.from-place.result (variant.Filled c.piece.inside.written) in
    let job = ap (λ p. p.job) c.piece.view_is in
    let place = c.from-place.ensures ∙ ap (λ (j : JobParts). j.place) c.job.view_is in
    ap (λ (j : JobParts). book_model (slice_set jobs c.from-place.result j) filled) job
    ∙ put_model jobs c.self.inside.places.items c.args.self.now c.from-place.result c.piece.inside.written c.args.piece c.self.view_is
    (place ∙ ap (λ (j : JobParts). j.place) job)
