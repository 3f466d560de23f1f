-- The store that the writes of a program's body leave.
use Rattle.std.proofs.Common.{◌≡◌, ◌<◌, List, [], length, pos, sym, ap, ◌∙◌, subst}
use Rattle.std.specs.Prelude.{All}
use Rattle.std.proofs.lemmas.List.{length-replicate}
use Rattle.array_tree.specs.Trees.{ProgramTree}
use Rattle.array_meaning.specs.Stores.{Store, Write, arrays_of, cells_of, after}
use Rattle.array_meaning.specs.Steps.{writes_of}
use Rattle.array_meaning.specs.Work.{final_store, sequence_work, first_store}
use Rattle.array_meaning.proofs.BelowLemmas.{below_of, below_lays, all_of}
use Rattle.array_meaning.proofs.MergeLemmas.{after_last}
use Rattle.array_meaning.proofs.StepLemmas.{length_after}
use Rattle.array_jobs.specs.Works.{steps_of}
use Rattle.array_jobs.specs.Jobs.{JobParts, JobTree, IsFit, job_of}
use Rattle.array_jobs.specs.Bodies.{body_of}
use Rattle.array_jobs.specs.PieceParts.{piece_of_job}
use Rattle.array_jobs.proofs.FitLemmas.{inside}

-- A job's writes lie inside its store.
writes_below : (job : JobTree) → IsFit job → All (λ w. w.0 < length job.store) (piece_of_job job)
writes_below job fit =
    let n = length job.store in
    let ws = writes_of (arrays_of job.arrays) (steps_of job.work job.vars) job.store in
    all_of n (piece_of_job job) (below_lays n ws [] (below_of n ws (inside job fit)) tt)

-- The writes of a job lie inside a copy of its store.
pub writes_fit : (job view : JobParts) (zeros : Store) (written : List Write) → view ≡ job → IsFit (job_of view) → zeros ≡ view.store → written ≡ piece_of_job (job_of job)
    → All (λ w. w.0 < length zeros) written
writes_fit job view zeros written same fit start is =
    let below = writes_below (job_of view) fit in
    let here : All (λ w. w.0 < length zeros) (piece_of_job (job_of view))
    = subst (λ (s : Store). All (λ w. w.0 < length s) (piece_of_job (job_of view))) (sym start) below in
    subst (λ ws. All (λ w. w.0 < length zeros) ws) (sym (is ∙ ap (λ j. piece_of_job (job_of j)) (sym same))) here

-- The writes of the body, laid over the store from which it starts, are the store with which the program ends.
pub body_left : (program : ProgramTree) (job : JobTree) (zeros : Store) (written : List Write) → job ≡ body_of program → zeros ≡ job.store → written ≡ piece_of_job job
    → after written zeros ≡ final_store program
body_left program job zeros written is start writes =
    let first = first_store (arrays_of program.arrays) in
    ap (λ ws. after ws zeros) writes
    ∙ ap (after (piece_of_job job)) start
    ∙ subst (λ (j : JobTree). after (piece_of_job j) j.store ≡ final_store program) (sym is)
    (after_last (writes_of (arrays_of program.arrays) (sequence_work program.body []) first) first)

-- The store with which a program ends has the cells of its arrays.
pub final_cells : (program : ProgramTree) → length (final_store program) ≡ cells_of (arrays_of program.arrays)
final_cells program =
    let first = first_store (arrays_of program.arrays) in
    length_after (writes_of (arrays_of program.arrays) (sequence_work program.body []) first) first ∙ length-replicate (cells_of (arrays_of program.arrays)) (pos 0)
