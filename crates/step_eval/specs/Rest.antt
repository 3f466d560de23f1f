-- The remaining works, the next one first. Both sides of an `if` may have sites, so a work has the number of sites that the
-- walk has after it, of a side that was not chosen.
use Rattle.std.specs.Prelude.{ℕ, ◌+◌, List, [], ◌∷◌}
use Rattle.array_meaning.specs.Stores.{Vars}
use Rattle.array_meaning.specs.Steps.{Steps, Done, followed_by}
use Rattle.array_jobs.specs.Works.{WorkTree, steps_of, sites_of}
use Rattle.array_jobs.specs.Jobs.{JobTree, IsFit}

-- A work with the loop variables around it, the innermost first.
pub record WorkAt : Type 0 where
  pub work : WorkTree
  pub vars : Vars
  -- The number of sites that the walk has between this work and the next one: those of the other side of an `if`, if this is
  -- the first side.
  pub after : ℕ

-- A work with no site after it.
abbrev pub at : WorkTree → Vars → WorkAt
at work vars = record { work = work; vars = vars; after = 0 }

-- A work with so many sites after it.
abbrev pub before : WorkTree → Vars → ℕ → WorkAt
before work vars n = record { work = work; vars = vars; after = n }

-- The steps of works, one after another.
abbrev pub rest_steps : List WorkAt → Steps
rest_steps [] = Done
rest_steps (w ∷ more) = followed_by (steps_of w.work w.vars) (rest_steps more)

-- The number of sites that the walk has in these works, and after each of them.
abbrev pub rest_sites : List WorkAt → ℕ
rest_sites [] = 0
rest_sites (w ∷ more) = sites_of w.work + w.after + rest_sites more

-- The job with this work instead of its own, and this number for the next site.
abbrev pub instead : JobTree → ℕ → WorkAt → JobTree
instead job next w = record {
  arrays = job.arrays;
  site = job.site;
  phase = job.phase;
  place = job.place;
  first = next;
  work = w.work;
  vars = w.vars;
  store = job.store;
}

-- Each work is fit to run instead of the job's own. The sites are numbered one after another, those after a work before those
-- of the next.
abbrev pub AreFit : JobTree → ℕ → List WorkAt → Type 0
AreFit job next [] = Unit {0}
AreFit job next (w ∷ more) =
    IsFit (instead job next w) × AreFit job (next + sites_of w.work + w.after) more
