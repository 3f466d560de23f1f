use Rattle.std.proofs.Common.{◌≡◌, length, ap, ◌∙◌, arith}
use Rattle.std.proofs.lemmas.Result.{IfOk-weaker}
use Rattle.array_tree.specs.Trees.{declarations_of}
use Rattle.array_meaning.specs.Stores.{arrays_of}
use Rattle.array_meaning.specs.Pieces.{last_writes}
use Rattle.array_jobs.specs.Works.{work_of, steps_of}
use Rattle.array_jobs.specs.Jobs.{job_of}
use Rattle.array_jobs.specs.PieceParts.{piece_of_job}
use Rattle.array_eval.specs.Traces.{fresh, traced, marked}
use Rattle.array_jobs.proofs.FitLemmas.{sized, marked_piece, same_cells}
use Rattle.array_jobs.proofs.piece.written_by.Goals as goal

pub new-requires : goal.new-requires
new-requires c = sized _ c.job.invariant

pub written-requires : goal.written-requires
written-requires c =
    let arrays = arrays_of (declarations_of c.job.inside.arrays.now) in
    let steps = steps_of (work_of c.job.inside.work) c.job.inside.vars in
    let trace : c.run_work.new.store ≡ traced arrays steps (fresh c.job.inside.store)
    = c.run_work.ensures ∙ ap (traced c.in_ok-layout.layout steps) c.in_ok-store.ensures
    ∙ ap (λ layout. traced layout steps (fresh c.job.inside.store)) c.in_ok-layout.ensures in
    let cells = ap (λ t. length t.cells) trace ∙ same_cells _ c.job.invariant in
    let whole = (sized _ c.job.invariant).whole in
    omega (arith, cells, whole)

pub returns : goal.returns
returns c =
    let arrays = arrays_of (declarations_of c.job.inside.arrays.now) in
    let steps = steps_of (work_of c.job.inside.work) c.job.inside.vars in
    let trace : c.run_work.new.store ≡ traced arrays steps (fresh c.job.inside.store)
    = c.run_work.ensures ∙ ap (traced c.in_ok-layout.layout steps) c.in_ok-store.ensures
    ∙ ap (λ layout. traced layout steps (fresh c.job.inside.store)) c.in_ok-layout.ensures in
    IfOk-weaker c.written.result _ _
    (λ overlay e. e ∙ ap (λ t. last_writes (marked t)) trace ∙ marked_piece _ c.job.invariant ∙ ap (λ job. piece_of_job (job_of job)) c.job.view_is)
    c.written.ensures
