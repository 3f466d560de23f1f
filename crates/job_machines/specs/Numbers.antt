-- The numbers of the sites inside jobs, and of those inside a construct.
use Rattle.std.specs.Prelude.{◌≡◌, ℕ, zero, suc, ◌+◌, List, [], ◌∷◌, ◌++◌, IsTrue}
use Rattle.array_meaning.specs.Stores.{Store}
use Rattle.array_meaning.specs.Plans.{statement_sites_in}
use Rattle.array_meaning.specs.Limits.{statement_has_right_ranges}
use Rattle.array_jobs.specs.Works.{sites_of}
use Rattle.array_jobs.specs.Jobs.{JobTree}
use Rattle.step_eval.specs.Nests.{NestedTree, phases_of, jobs_in, is_construct}

-- The n numbers from this one on.
abbrev pub numbers_from : ℕ → ℕ → List ℕ
numbers_from first zero = []
numbers_from first (suc n) = first ∷ numbers_from (first + 1) n

-- The sites inside the jobs, job after job.
abbrev pub sites_of_jobs : List JobTree → List ℕ
sites_of_jobs [] = []
sites_of_jobs (job ∷ more) = numbers_from job.first (sites_of job.work) ++ sites_of_jobs more

-- The sites inside the jobs of so many phases from this one on, phase after phase, each phase over a store of its own.
abbrev pub sites_of_phases : NestedTree → (ℕ → Store) → ℕ → ℕ → List ℕ
sites_of_phases nested stores phase zero = []
sites_of_phases nested stores phase (suc n) =
    sites_of_jobs (jobs_in nested phase (stores phase))
    ++ sites_of_phases nested stores (phase + 1) n

-- The site of a construct, followed by the sites inside the jobs of all its phases, are consecutive numbers from the
-- construct's own on, each once, as many as the construct has sites. So a number inside is a site of exactly one job of exactly
-- one phase.
abbrev pub JobsHaveTheSitesInside : Type 0
JobsHaveTheSitesInside = (nested : NestedTree) (stores : ℕ → Store) →
    IsTrue (is_construct nested.construct) → IsTrue (statement_has_right_ranges nested.construct) →
    nested.site ∷ sites_of_phases nested stores 0 (phases_of nested.construct)
    ≡ numbers_from nested.site (statement_sites_in nested.construct)
