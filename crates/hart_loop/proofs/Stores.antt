-- The store that the piece of a program's body leaves.
use Rattle.std.proofs.Common.{◌≡◌, [], sym, subst}
use Rattle.array_tree.specs.Trees.{ProgramTree}
use Rattle.array_meaning.specs.Stores.{arrays_of, after}
use Rattle.array_meaning.specs.Steps.{writes_of}
use Rattle.array_meaning.specs.Work.{final_store, sequence_work, first_store}
use Rattle.array_meaning.proofs.MergeLemmas.{after_last}
use Rattle.array_jobs.specs.Jobs.{JobTree}
use Rattle.array_jobs.specs.Bodies.{body_of}
use Rattle.array_jobs.specs.PieceParts.{piece_of_job}

pub body_store : (program : ProgramTree) (job : JobTree) → job ≡ body_of program → after (piece_of_job job) job.store ≡ final_store program
body_store program job is =
    let zeros = first_store (arrays_of program.arrays) in
    subst (λ (j : JobTree). after (piece_of_job j) j.store ≡ final_store program) (sym is)
    (after_last (writes_of (arrays_of program.arrays) (sequence_work program.body []) zeros) zeros)
