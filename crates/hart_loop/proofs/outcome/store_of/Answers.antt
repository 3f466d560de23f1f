use Rattle.std.proofs.Common.{◌<◌, length, sym, ap, ◌∙◌, subst}
use Rattle.std.specs.Prelude.{All}
use Rattle.std.proofs.lemmas.Result.{IfOk-weaker}
use Rattle.array_meaning.specs.Stores.{after}
use Rattle.array_jobs.specs.Jobs.{job_of}
use Rattle.array_jobs.specs.PieceParts.{piece_of_job}
use Rattle.join_book.proofs.BookLemmas.{piece_below}
use Rattle.hart_loop.proofs.Stores.{body_store}
use Rattle.hart_loop.proofs.outcome.store_of.Goals as goal

pub with-requires : goal.with-requires
with-requires c =
    let is = c.requires ∙ sym (ap (λ job. piece_of_job (job_of job)) c.job.view_is) in
    subst (λ ps. All (λ w. w.0 < length c.job.inside.store) ps) (sym is) (piece_below _ c.job.invariant)

pub returns : goal.returns
returns c =
    let is = c.requires ∙ sym (ap (λ job. piece_of_job (job_of job)) c.job.view_is) in
    IfOk-weaker c.with.result _ _
    (λ store e program body. e ∙ ap (λ ps. after ps c.job.inside.store) is ∙ body_store program _ (ap job_of c.job.view_is ∙ body))
    c.with.ensures.merged
