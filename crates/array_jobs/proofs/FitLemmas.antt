-- Facts on a fit job.
use Rattle.std.proofs.Common.{◌≡◌, ◌<◌, true, ◌∷◌, length, ap, ◌∙◌}
use Rattle.std.specs.Prelude.{All}
use Rattle.std.proofs.lemmas.Bool.{and_parts}
use Rattle.array_meaning.specs.Stores.{AreSized, arrays_of, cells_of}
use Rattle.array_meaning.specs.Steps.{writes_of}
use Rattle.array_meaning.specs.Touch.{walk}
use Rattle.array_meaning.specs.Names.{names_of, are_known, has_known_names}
use Rattle.array_meaning.specs.Pieces.{last_writes}
use Rattle.array_meaning.proofs.InsideLemmas.{sized_in_range, names_in, names_in_of}
use Rattle.array_meaning.proofs.KnownLemmas.{sequence_known, loop_known, writes_inside}
use Rattle.array_meaning.proofs.StepLemmas.{length_after}
use Rattle.array_jobs.specs.Works.{WorkTree, branch_of, member_of, steps_of, statements_of}
use Rattle.array_jobs.specs.Jobs.{JobTree, IsFit, names_around, program_in}
use Rattle.array_jobs.specs.PieceParts.{piece_of_job}
use Rattle.array_eval.specs.Traces.{fresh, traced, marked}
use Rattle.array_eval.proofs.TraceLemmas.{cells_after, marked_last}

-- The arrays have cells, at most 4,096.
pub sized : (job : JobTree) → IsFit job → AreSized (arrays_of job.arrays)
sized job fit = sized_in_range (program_in job) fit.ranges

-- The walk visits only known arrays.
pub known : (arrays : _) (names around : _) (work : WorkTree) (vars : _) → has_known_names (statements_of work) names around ≡ true →
    are_known names (walk arrays (steps_of work vars)) ≡ true
known arrays names around (branch_of body) vars h = sequence_known arrays names body around vars h
known arrays names around (member_of var low high body) vars h =
    loop_known arrays names body var low high around vars (and_parts (has_known_names body names (var ∷ around)) true h).0

-- The job's writes lie inside the arrays.
pub inside : (job : JobTree) → IsFit job →
    All (λ w. w.0 < length job.store) (writes_of (arrays_of job.arrays) (steps_of job.work job.vars) job.store)
inside job fit =
    let arrays = arrays_of job.arrays in
    let visited : are_known (names_in arrays) (walk arrays (steps_of job.work job.vars)) ≡ true
    = rw (names_in_of job.arrays) (known arrays (names_of job.arrays) (names_around job.vars) job.work job.vars fit.known_names) in
    rw fit.cells (writes_inside arrays (sized job fit).each (steps_of job.work job.vars) job.store visited fit.indices)

-- The marked cells after the work are the job's piece.
pub marked_piece : (job : JobTree) → IsFit job →
    last_writes (marked (traced (arrays_of job.arrays) (steps_of job.work job.vars) (fresh job.store))) ≡ piece_of_job job
marked_piece job fit = marked_last (writes_of (arrays_of job.arrays) (steps_of job.work job.vars) job.store) job.store (inside job fit)

-- The number of cells stays.
pub same_cells : (job : JobTree) → IsFit job →
    length (traced (arrays_of job.arrays) (steps_of job.work job.vars) (fresh job.store)).cells ≡ cells_of (arrays_of job.arrays)
same_cells job fit =
    let ws = writes_of (arrays_of job.arrays) (steps_of job.work job.vars) job.store in
    ap length (cells_after ws (fresh job.store)) ∙ length_after ws job.store ∙ fit.cells
