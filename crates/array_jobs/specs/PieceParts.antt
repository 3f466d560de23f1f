-- Pieces: jobs with what they write.
use Rattle.std.specs.Prelude.{◌≡◌, List}
use Rattle.array_meaning.specs.Stores.{Write, arrays_of}
use Rattle.array_meaning.specs.Pieces.{piece_of}
use Rattle.array_jobs.specs.Works.{steps_of}
use Rattle.array_jobs.specs.Jobs.{JobParts, JobTree, job_of}

-- The parts of a piece that contracts see.
pub record PieceParts : Type 0 where
  pub job : JobParts
  pub written : List Write

-- The writes of a job: each cell with its last value, in rising order.
abbrev pub piece_of_job : JobTree → List Write
piece_of_job job = piece_of (arrays_of job.arrays) (steps_of job.work job.vars) job.store

-- The piece has exactly the writes of its job.
abbrev pub IsRight : PieceParts → Type 0
IsRight piece = piece.written ≡ piece_of_job (job_of piece.job)
