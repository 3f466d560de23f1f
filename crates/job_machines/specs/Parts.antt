-- Works, constructs and jobs whose sites are parts of a plan: whole subtrees inside the site around.
use Rattle.std.specs.Prelude.{◌≡◌, ℕ, ◌+◌, ◌-◌, ◌<◌, List, [], ◌∷◌, ◌++◌, Some}
use Rattle.transfer_table.specs.Plan.{Plan, IsPlan, IsSite, parent}
use Rattle.transfer_table.specs.Accounts.{IsSpan}
use Rattle.array_tree.specs.Trees.{Statement, ProgramTree}
use Rattle.array_meaning.specs.Stores.{Arrays, Store}
use Rattle.array_meaning.specs.Plans.{plan_of, statement_sites_in}
use Rattle.array_meaning.specs.Pieces.{IsMember}
use Rattle.entered_laws.specs.Meant.{HasPartFrom}
use Rattle.array_jobs.specs.Works.{sites_of}
use Rattle.array_jobs.specs.Jobs.{JobTree}
use Rattle.array_jobs.specs.Bodies.{body_of}
use Rattle.step_eval.specs.Rest.{WorkAt, at}
use Rattle.step_eval.specs.Moves.{moved, moved_sites}
use Rattle.step_eval.specs.Passes.{pass_of}
use Rattle.step_eval.specs.Machines.{construct_of}
use Rattle.step_eval.specs.Nests.{NestedTree, phases_of, jobs_in}
use Rattle.job_machines.specs.Planned.{work_parents, inside_parents, WorksHave}

-- The sites of each work are a part inside the site around, one work after another. The sites after a work come before those of
-- the next.
abbrev pub AreParts : Plan → ℕ → ℕ → List WorkAt → Type 0
AreParts p around next works = WorksHave (HasPartFrom p around) around next works

-- After a step the sites of the works are such parts.
abbrev pub WorksStayParts : Type 0
WorksStayParts = (p : Plan) (around next : ℕ) (arrays : Arrays) (store : Store) (w : WorkAt)
    (more : List WorkAt) → AreParts p around next (w ∷ more)
    → AreParts p around (next + moved_sites arrays store w) (moved arrays store w ++ more)

-- A work without a site in it or after it may be left out.
abbrev pub WholeWorksArePassed : Type 0
WholeWorksArePassed = (p : Plan) (around next : ℕ) (w : WorkAt) (more : List WorkAt)
    → AreParts p around next (w ∷ more) → sites_of w.work + w.after ≡ 0
    → AreParts p around next more

-- The sites that a hart has to skip are whole subtrees inside the site around.
abbrev pub PassesAreSpans : Type 0
PassesAreSpans = (p : Plan) (around next : ℕ) (arrays : Arrays) (store : Store) (rest : List WorkAt)
    (span : ℕ × ℕ) → pass_of arrays store next rest ≡ Some span → AreParts p around next rest
    → IsSpan p around span.0 (span.1 - span.0)

-- The site of a construct is inside the site around. The sites inside the construct come next, a part inside its site, and the
-- site's children are among them.
pub record IsConstructPart (p : Plan) (around next : ℕ) (construct : Statement) : Type 0 where
  pub site : IsSite p next
  pub inside : HasPartFrom p next (next + 1) (inside_parents construct next (next + 1))
  pub children : (x : ℕ) → IsSite p x → parent p x ≡ next
      → (next < x) × (x < next + statement_sites_in construct)
  pub parent : parent p next ≡ around

-- This holds of the next construct.
abbrev pub ConstructsAreParts : Type 0
ConstructsAreParts = (p : Plan) (around next : ℕ) (w : WorkAt) (more : List WorkAt)
    (construct : Statement) → IsPlan p → construct_of w.work ≡ Some construct
    → AreParts p around next (w ∷ more) → IsConstructPart p around next construct

-- If the sites inside a construct are a part, the sites of each of its jobs are a part inside the construct's site.
abbrev pub JobsAreParts : Type 0
JobsAreParts = (p : Plan) (nested : NestedTree) (phase : ℕ) (store : Store)
    → phase < phases_of nested.construct
    → HasPartFrom p nested.site (nested.site + 1)
    (inside_parents nested.construct nested.site (nested.site + 1))
    → (job : JobTree) → IsMember job (jobs_in nested phase store)
    → (job.site ≡ nested.site)
    × HasPartFrom p nested.site job.first (work_parents job.work nested.site job.first)

-- The sites of a program's body are a part inside the base.
abbrev pub BodiesAreParts : Type 0
BodiesAreParts = (program : ProgramTree) (p : Plan) → p.parents ≡ plan_of program
    → AreParts p 0 (body_of program).first
    (at (body_of program).work (body_of program).vars ∷ [])
