-- Jobs, and the condition for a job to be fit to run.
use Rattle.std.specs.Prelude.{◌≡◌, ℕ, ◌+◌, ◌<◌, ◌≤◌, IsTrue, List, [], ◌++◌, length, map}
use Rattle.array_tree.specs.declared.tree.Arrays.{Arrays}
use Rattle.array_tree.specs.Trees.{Declaration, ProgramTree, declarations_of}
use Rattle.array_meaning.specs.Bounds.{most_members, most_phases, most_sites}
use Rattle.array_meaning.specs.Stores.{Vars, Store, arrays_of, cells_of}
use Rattle.array_meaning.specs.Touch.{walk}
use Rattle.array_meaning.specs.Sites.{sequence_sites, AreSitesApart}
use Rattle.array_meaning.specs.Names.{are_declared_once, has_new_variables, names_of, has_known_names}
use Rattle.array_meaning.specs.Limits.{is_in_range}
use Rattle.array_meaning.specs.Accepted.{are_inside}
use Rattle.array_jobs.specs.declared.work.Work.{Work}
use Rattle.array_jobs.specs.Works.{WorkTree, work_of, steps_of, statements_of, sites_of}

-- The parts of a job that contracts see.
pub record JobParts : Type 0 where
  pub arrays : Arrays
  pub site : ℕ
  pub phase : ℕ
  pub place : ℕ
  pub first : ℕ
  pub work : Work
  pub vars : Vars
  pub store : Store

-- A job without the addresses of its parts. Two jobs are equal if these parts are.
pub record JobTree : Type 0 where
  pub arrays : List Declaration
  pub site : ℕ
  pub phase : ℕ
  pub place : ℕ
  pub first : ℕ
  pub work : WorkTree
  pub vars : Vars
  pub store : Store

-- The parts of a job, without their addresses.
abbrev pub job_of : JobParts → JobTree
job_of job = record {
  arrays = declarations_of job.arrays;
  site = job.site;
  phase = job.phase;
  place = job.place;
  first = job.first;
  work = work_of job.work;
  vars = job.vars;
  store = job.store;
}

-- The names of the loop variables around, the innermost first.
abbrev pub names_around : Vars → List (List ℕ)
names_around vars = map (λ v. v.0) vars

-- The program with the job's arrays, and its work as the body.
abbrev pub program_in : JobTree → ProgramTree
program_in job = record { arrays = job.arrays; body = statements_of job.work }

-- A job that is fit to run, with the loop variables around it. No name of the work is used twice or unknown, all is in its
-- limits, and each static index is inside its array. The pieces of each site are apart. The store has one value for each cell,
-- and the sites' numbers have room. The variables need only this: no loop of the work has the name of one of them, or of an
-- array.
pub record IsFit (job : JobTree) : Type 0 where
  pub single_names : IsTrue (are_declared_once job.arrays [])
  pub new_variables : IsTrue
      (has_new_variables (statements_of job.work) (names_around job.vars ++ names_of job.arrays))
  pub known_names : IsTrue
      (has_known_names (statements_of job.work) (names_of job.arrays) (names_around job.vars))
  pub ranges : IsTrue (is_in_range (program_in job))
  pub indices : IsTrue (are_inside (arrays_of job.arrays)
      (walk (arrays_of job.arrays) (steps_of job.work job.vars)))
  pub apart : AreSitesApart (arrays_of job.arrays)
      (sequence_sites (statements_of job.work) job.vars)
  pub cells : length job.store ≡ cells_of (arrays_of job.arrays)
  pub phases : job.phase < most_phases
  pub places : job.place < most_members
  pub sites : job.first + sites_of job.work ≤ most_sites + 1
