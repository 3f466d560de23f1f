-- Constructs that are handed out, and the jobs of their pieces.
use Rattle.std.specs.Prelude.{ℕ, zero, suc, ◌+◌, ◌*◌, ◌<◌, List, [], ◌∷◌, Bool, true, false, IsTrue, ℤ, unsigned_abs}
use Rattle.array_tree.specs.declared.tree.Arrays.{Arrays}
use Rattle.array_tree.specs.declared.tree.Stmt.{Stmt}
use Rattle.array_tree.specs.Trees.{Statement, Assign, For, If, Par, Team, Sequence, ended, Sequences, no_more, beside, Declaration, declarations_of, statement_of}
use Rattle.array_meaning.specs.Stores.{Vars, Store, Write, arrays_of}
use Rattle.array_meaning.specs.Steps.{Steps}
use Rattle.array_meaning.specs.Work.{span, statement_work}
use Rattle.array_meaning.specs.Members.{start_of}
use Rattle.array_meaning.specs.Sites.{branch_works, phase_rounds, AreRoundsApart}
use Rattle.array_meaning.specs.Plans.{sites_in}
use Rattle.array_meaning.specs.Limits.{count_of, statement_has_right_ranges}
use Rattle.array_meaning.specs.Pieces.{piece_of}
use Rattle.array_jobs.specs.Works.{WorkTree, branch_of, member_of, sites_of}
use Rattle.array_jobs.specs.Jobs.{JobTree, IsFit}

-- The parts of a construct that contracts see.
pub record NestedParts : Type 0 where
  pub arrays : Arrays
  pub site : ℕ
  pub construct : Stmt
  pub vars : Vars
  pub store : Store

-- A construct without the addresses of its parts. Two constructs are equal if these parts are.
pub record NestedTree : Type 0 where
  pub arrays : List Declaration
  pub site : ℕ
  pub construct : Statement
  pub vars : Vars
  pub store : Store

-- The parts of a construct, without their addresses.
abbrev pub nested_of : NestedParts → NestedTree
nested_of nested = record {
  arrays = declarations_of nested.arrays;
  site = nested.site;
  construct = statement_of nested.construct;
  vars = nested.vars;
  store = nested.store;
}

-- The number of a construct's phases: 1 for a `par`, and its own for a `team`.
abbrev pub phases_of : Statement → ℕ
phases_of (Assign line array index value) = 0
phases_of (For line var low high body) = 0
phases_of (If line cond then_block else_block) = 0
phases_of (Par line branches) = 1
phases_of (Team line var low high members phases) = count_of phases

-- The steps of the pieces of each phase.
abbrev pub rounds_of : Statement → Vars → List (List Steps)
rounds_of (Assign line array index value) vars = []
rounds_of (For line var low high body) vars = []
rounds_of (If line cond then_block else_block) vars = []
rounds_of (Par line branches) vars = branch_works branches vars ∷ []
rounds_of (Team line var low high members phases) vars =
    phase_rounds phases var low high (unsigned_abs members) vars

-- The works of branches.
abbrev pub branch_trees : Sequences → List WorkTree
branch_trees no_more = []
branch_trees (beside first rest) = branch_of first ∷ branch_trees rest

-- The works of so many members, from member j on.
abbrev pub member_trees : List ℕ → ℤ → ℤ → ℕ → Sequence → ℕ → ℕ → List WorkTree
member_trees var low high m body j zero = []
member_trees var low high m body j (suc k) =
    member_of var (start_of low high m j) (start_of low high m (j + 1)) body
    ∷ member_trees var low high m body (j + 1) k

-- The body of a phase.
abbrev pub phase_at : Sequences → ℕ → Sequence
phase_at no_more phase = ended
phase_at (beside first rest) zero = first
phase_at (beside first rest) (suc phase) = phase_at rest phase

-- The works of the pieces of a phase, in the order of their indices.
abbrev pub piece_trees : Statement → ℕ → List WorkTree
piece_trees (Assign line array index value) phase = []
piece_trees (For line var low high body) phase = []
piece_trees (If line cond then_block else_block) phase = []
piece_trees (Par line branches) phase = branch_trees branches
piece_trees (Team line var low high members phases) phase =
    member_trees var low high (unsigned_abs members) (phase_at phases phase) 0
    (unsigned_abs members)

-- The number of sites of the bodies of the phases before this one.
abbrev pub sites_before : Sequences → ℕ → ℕ
sites_before no_more phase = 0
sites_before (beside first rest) zero = 0
sites_before (beside first rest) (suc phase) = sites_in first + sites_before rest phase

-- The number of sites of the phases before this one, each in all its iterations.
abbrev pub earlier_sites : Statement → ℕ → ℕ
earlier_sites (Assign line array index value) phase = 0
earlier_sites (For line var low high body) phase = 0
earlier_sites (If line cond then_block else_block) phase = 0
earlier_sites (Par line branches) phase = 0
earlier_sites (Team line var low high members phases) phase =
    span low high * sites_before phases phase

-- The number of sites of works.
abbrev pub sites_of_all : List WorkTree → ℕ
sites_of_all [] = 0
sites_of_all (work ∷ more) = sites_of work + sites_of_all more

-- The jobs of works in a phase, from this index on, over a store. The sites of each are numbered after those of the one before.
abbrev pub numbered : NestedTree → ℕ → Store → ℕ → ℕ → List WorkTree → List JobTree
numbered nested phase store place first [] = []
numbered nested phase store place first (work ∷ more) = record {
  arrays = nested.arrays;
  site = nested.site;
  phase = phase;
  place = place;
  first = first;
  work = work;
  vars = nested.vars;
  store = store;
} ∷ numbered nested phase store (place + 1) (first + sites_of work) more

-- The jobs of the pieces of a phase, in the order of their indices. The sites inside come after the construct's own.
abbrev pub jobs_in : NestedTree → ℕ → Store → List JobTree
jobs_in nested phase store =
    numbered nested phase store 0 (nested.site + 1 + earlier_sites nested.construct phase)
    (piece_trees nested.construct phase)

-- Each job is fit to run.
abbrev pub AreFitJobs : List JobTree → Type 0
AreFitJobs [] = Unit {0}
AreFitJobs (job ∷ more) = IsFit job × AreFitJobs more

-- The test decides whether a statement is a `par` or a `team`.
abbrev pub is_construct : Statement → Bool
is_construct (Assign line array index value) = false
is_construct (For line var low high body) = false
is_construct (If line cond then_block else_block) = false
is_construct (Par line branches) = true
is_construct (Team line var low high members phases) = true

-- A fit construct: it is a `par` or a `team` within the limits on branches, members and phases, its pieces are apart in each
-- phase, and each of them is a fit job.
pub record IsFitNest (nested : NestedTree) : Type 0 where
  pub construct : IsTrue (is_construct nested.construct)
  pub limits : IsTrue (statement_has_right_ranges nested.construct)
  pub apart : AreRoundsApart (arrays_of nested.arrays) (rounds_of nested.construct nested.vars)
  pub jobs : (phase : ℕ) → phase < phases_of nested.construct
      → AreFitJobs (jobs_in nested phase nested.store)

-- The writes of the construct: each cell with its last value.
abbrev pub nested_writes : NestedTree → List Write
nested_writes nested = piece_of (arrays_of nested.arrays)
    (statement_work nested.construct nested.vars) nested.store
