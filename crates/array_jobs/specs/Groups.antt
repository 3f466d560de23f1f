-- Groups of jobs: the pieces of one phase of a construct.
use Rattle.std.specs.Prelude.{◌≡◌, ℕ, ◌<◌, ◌≤◌, List, length, slice_get, Some}
use Rattle.array_meaning.specs.Bounds.{most_members}
use Rattle.array_meaning.specs.Pieces.{IsMember}
use Rattle.array_jobs.specs.Jobs.{JobTree}

-- Two jobs have the same arrays, the same site and the same phase.
pub record AreAlike (a b : JobTree) : Type 0 where
  pub arrays : a.arrays ≡ b.arrays
  pub site : a.site ≡ b.site
  pub phase : a.phase ≡ b.phase

-- A group of jobs: at least one, all with the same arrays, site and phase. The job at index i has `place` i. Why `alike`
-- compares any two jobs, and not each with the first: a type can then keep the clause as a plain fact.
pub record IsGroup (jobs : List JobTree) : Type 0 where
  pub some : 0 < length jobs
  pub few : length jobs ≤ most_members
  pub alike : (i j : ℕ) (a b : JobTree) → slice_get jobs i ≡ Some a → slice_get jobs j ≡ Some b
      → AreAlike a b
  pub places : (i : ℕ) (job : JobTree) → slice_get jobs i ≡ Some job → job.place ≡ i

-- Two lists have the same jobs, in any order and any number of times.
pub record HaveSameJobs (xs ys : List JobTree) : Type 0 where
  pub to : (job : JobTree) → IsMember job xs → IsMember job ys
  pub from : (job : JobTree) → IsMember job ys → IsMember job xs
