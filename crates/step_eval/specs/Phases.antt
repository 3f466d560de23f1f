-- The writes of a construct, phase after phase.
use Rattle.std.specs.Prelude.{◌≡◌, ℕ, zero, suc, ◌<◌, List, [], ◌∷◌, map, length}
use Rattle.array_meaning.specs.Stores.{Store, Write, arrays_of, after}
use Rattle.array_meaning.specs.Steps.{Steps, join}
use Rattle.array_meaning.specs.Pieces.{lays, merged, piece_of}
use Rattle.array_jobs.specs.Works.{steps_of}
use Rattle.array_jobs.specs.Jobs.{JobTree}
use Rattle.array_jobs.specs.Groups.{IsGroup, HaveSameJobs}
use Rattle.array_jobs.specs.PieceParts.{piece_of_job}
use Rattle.step_eval.specs.Shapes.{members_of}
use Rattle.step_eval.specs.Nests.{NestedTree, phases_of, rounds_of, jobs_in, IsFitNest, nested_writes}

-- The steps of the pieces of this phase, from the list of all phases.
abbrev pub round_at : List (List Steps) → ℕ → List Steps
round_at [] phase = []
round_at (round ∷ more) zero = round
round_at (round ∷ more) (suc phase) = round_at more phase

-- The steps of the pieces of a phase of a construct.
abbrev pub round_of : NestedTree → ℕ → List Steps
round_of nested phase = round_at (rounds_of nested.construct nested.vars) phase

-- The writes of a phase from a store, its pieces one after another: each cell with its last value. By the law `PhasesAreMerged`
-- they merge in any order.
abbrev pub phase_writes : NestedTree → ℕ → Store → List Write
phase_writes nested phase store =
    piece_of (arrays_of nested.arrays) (join (round_of nested phase)) store

-- The store that the phases before this one leave.
abbrev pub store_before : NestedTree → ℕ → Store
store_before nested zero = nested.store
store_before nested (suc phase) =
    let store = store_before nested phase in
    after (phase_writes nested phase store) store

-- The writes of the phases before this one, laid over one another.
abbrev pub writes_before : NestedTree → ℕ → List Write
writes_before nested zero = []
writes_before nested (suc phase) =
    lays (phase_writes nested phase (store_before nested phase)) (writes_before nested phase)

-- The steps of a job's work, with its variables.
abbrev pub steps_of_job : JobTree → Steps
steps_of_job job = steps_of job.work job.vars

-- The jobs of a phase do what its pieces do, in the order of their indices.
abbrev pub JobsAreRounds : Type 0
JobsAreRounds = (nested : NestedTree) (phase : ℕ) (store : Store)
    → phase < phases_of nested.construct →
    map steps_of_job (jobs_in nested phase store) ≡ round_of nested phase

-- The jobs of a phase are as many as the construct has branches or members.
abbrev pub JobsAreCounted : Type 0
JobsAreCounted = (nested : NestedTree) (phase : ℕ) (store : Store)
    → phase < phases_of nested.construct →
    length (jobs_in nested phase store) ≡ members_of nested.construct

-- The jobs of a phase are a group.
abbrev pub JobsAreGroups : Type 0
JobsAreGroups = (nested : NestedTree) → IsFitNest nested → (phase : ℕ) (store : Store)
    → phase < phases_of nested.construct →
    IsGroup (jobs_in nested phase store)

-- The pieces of a phase's jobs, merged in any order, are what the phase writes.
abbrev pub PhasesAreMerged : Type 0
PhasesAreMerged = (nested : NestedTree) → IsFitNest nested → (phase : ℕ) (store : Store)
    → phase < phases_of nested.construct →
    (order : List JobTree) → HaveSameJobs order (jobs_in nested phase store) →
    merged (map piece_of_job order) [] ≡ phase_writes nested phase store

-- The pieces of a construct, phase after phase, each from the store that the phase before left, are what the construct writes
-- and leaves.
pub record IsWhole (nested : NestedTree) : Type 0 where
  pub writes : writes_before nested (phases_of nested.construct) ≡ nested_writes nested
  pub store : store_before nested (phases_of nested.construct)
      ≡ after (nested_writes nested) nested.store

-- The phases of each fit construct are the whole construct.
abbrev pub PhasesAreConstructs : Type 0
PhasesAreConstructs = (nested : NestedTree) → IsFitNest nested → IsWhole nested
