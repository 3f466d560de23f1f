-- The positions of works' sites in a plan, which is the list of the parents of all sites, that of site 1 first.
use Rattle.std.specs.Prelude.{◌≡◌, ℕ, ◌+◌, ◌-◌, ◌≤◌, ◌<◌, List, [], ◌∷◌, ◌++◌, length, slice_index, Some}
use Rattle.array_tree.specs.Trees.{Statement, Assign, For, If, Par, Team}
use Rattle.array_meaning.specs.Work.{span}
use Rattle.array_meaning.specs.Stores.{Arrays, Store}
use Rattle.array_meaning.specs.Plans.{Parents, repeated, sequence_parents, branches_parents, phases_parents}
use Rattle.array_jobs.specs.Works.{WorkTree, branch_of, member_of, sites_of}
use Rattle.step_eval.specs.Rest.{WorkAt}
use Rattle.step_eval.specs.Moves.{moved, moved_sites}
use Rattle.step_eval.specs.Machines.{Progress, HasMoved, construct_of}
use Rattle.step_eval.specs.Nests.{NestedTree, phases_of, jobs_in}
use Rattle.array_jobs.specs.Jobs.{JobTree}

-- The parents of the sites of a work.
abbrev pub work_parents : WorkTree → Parents
work_parents (branch_of body) around next = sequence_parents body around next
work_parents (member_of var low high body) around next =
    repeated (span low high) (sequence_parents body) around next

-- The parents of the sites inside a construct.
abbrev pub inside_parents : Statement → Parents
inside_parents (Assign line array index value) around next = []
inside_parents (For line var low high body) around next = []
inside_parents (If line cond then_block else_block) around next = []
inside_parents (Par line branches) around next = branches_parents branches around next
inside_parents (Team line var low high members phases) around next =
    phases_parents phases (span low high) around next

-- The plan has these parents from the site `next` on.
pub record HasParentsFrom (ps : List ℕ) (next : ℕ) (part : List ℕ) : Type 0 where
  pub before : List ℕ
  pub after : List ℕ
  pub place : length before + 1 ≡ next
  pub is : ps ≡ before ++ (part ++ after)

-- `Has` holds of the first number and the parents of each work's sites, one work after another. The sites after a work come
-- before those of the next.
abbrev pub WorksHave : (ℕ → List ℕ → Type 0) → ℕ → ℕ → List WorkAt → Type 0
WorksHave Has around next [] = Unit {0}
WorksHave Has around next (w ∷ more) =
    Has next (work_parents w.work around next)
    × WorksHave Has around (next + sites_of w.work + w.after) more

-- The plan has the sites of each work.
abbrev pub ArePlanned : List ℕ → ℕ → ℕ → List WorkAt → Type 0
ArePlanned ps around next works = WorksHave (HasParentsFrom ps) around next works

-- After a step, the plan has the sites of the works.
abbrev pub WorksStayPlanned : Type 0
WorksStayPlanned = (ps : List ℕ) (around next : ℕ) (arrays : Arrays) (store : Store) (w : WorkAt)
    (more : List WorkAt) → ArePlanned ps around next (w ∷ more) →
    ArePlanned ps around (next + moved_sites arrays store w) (moved arrays store w ++ more)

-- The parent of a construct's site is the site around it, and the sites inside it come next.
pub record IsPlannedAt (ps : List ℕ) (around next : ℕ) (construct : Statement) : Type 0 where
  pub some : 1 ≤ next
  pub known : next ≤ length ps
  pub parent : slice_index ps (next - 1) ≡ around
  pub inside : HasParentsFrom ps (next + 1) (inside_parents construct next (next + 1))

-- The plan has the site of the next construct.
abbrev pub ConstructsArePlanned : Type 0
ConstructsArePlanned = (ps : List ℕ) (around next : ℕ) (w : WorkAt) (more : List WorkAt)
    (construct : Statement) →
    construct_of w.work ≡ Some construct → ArePlanned ps around next (w ∷ more)
    → IsPlannedAt ps around next construct

-- `Has` holds of the first number and the parents of each job's sites.
abbrev pub JobsHave : (ℕ → List ℕ → Type 0) → List JobTree → Type 0
JobsHave Has [] = Unit {0}
JobsHave Has (job ∷ more) =
    Has job.first (work_parents job.work job.site job.first) × JobsHave Has more

-- The plan has the sites of each job, from the number of its first on.
abbrev pub AreJobsPlanned : List ℕ → List JobTree → Type 0
AreJobsPlanned ps jobs = JobsHave (HasParentsFrom ps) jobs

-- If the sites inside a construct follow its own, the plan has the sites of its pieces' jobs at the jobs' numbers.
abbrev pub JobsArePlanned : Type 0
JobsArePlanned = (ps : List ℕ) (nested : NestedTree) (phase : ℕ) (store : Store)
    → phase < phases_of nested.construct →
    HasParentsFrom ps (nested.site + 1) (inside_parents nested.construct nested.site
    (nested.site + 1)) → AreJobsPlanned ps (jobs_in nested phase store)

-- The sites inside each job have greater numbers than the site of which the job is a piece.
abbrev pub AreNumberedAbove : List JobTree → Type 0
AreNumberedAbove [] = Unit {0}
AreNumberedAbove (job ∷ more) = (job.site < job.first) × AreNumberedAbove more

-- This holds of the jobs of a phase.
abbrev pub JobsAreNumberedAbove : Type 0
JobsAreNumberedAbove = (nested : NestedTree) (phase : ℕ) (store : Store)
    → AreNumberedAbove (jobs_in nested phase store)

-- The number of the next site begins at the job's first, and no step of a machine lowers it.
pub record NumbersRise (before after : Progress) : Type 0 where
  pub job : after.job ≡ before.job
  pub next : before.next ≤ after.next

-- Each step of a machine that goes on raises the number of the next site or keeps it.
abbrev pub StepsRaiseNumbers : Type 0
StepsRaiseNumbers = (before after : Progress) → HasMoved before.rest before after
    → NumbersRise before after
