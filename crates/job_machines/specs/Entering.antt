-- The remaining sites that a machine still enters.
use Rattle.std.specs.Prelude.{◌≡◌, ℕ, zero, suc, ◌+◌, Bool, true, false, List, [], ◌∷◌, ◌++◌, replicate, length, Some, None}
use Rattle.array_tree.specs.Trees.{Statement}
use Rattle.array_meaning.specs.Stores.{Arrays, Vars, Store, HaveCells, arrays_of, after}
use Rattle.array_meaning.specs.Steps.{exec}
use Rattle.array_meaning.specs.Entered.{Entering, loop_entered, sequence_entered, statement_entered, sequence_part}
use Rattle.array_jobs.specs.Works.{WorkTree, branch_of, member_of, steps_of}
use Rattle.array_jobs.specs.Jobs.{JobTree}
use Rattle.step_eval.specs.Rest.{WorkAt, rest_sites}
use Rattle.step_eval.specs.Moves.{moved, moved_writes, moved_sites}
use Rattle.step_eval.specs.Machines.{construct_of}
use Rattle.step_eval.specs.Nests.{NestedTree, phases_of, jobs_in, IsFitNest}
use Rattle.step_eval.specs.Phases.{store_before}

-- For each site of a work, in the order of the plan, whether it is entered.
abbrev pub work_entered : Arrays → WorkTree → Vars → Entering
work_entered arrays (branch_of body) vars = sequence_entered arrays body vars
work_entered arrays (member_of var low high body) vars =
    loop_entered arrays var low high (sequence_part arrays body) vars

-- For each remaining site, work after work. The sites after a work are not entered.
abbrev pub rest_entered : Arrays → List WorkAt → Entering
rest_entered arrays [] store = []
rest_entered arrays (w ∷ more) store =
    work_entered arrays w.work w.vars store
    ++ (replicate w.after false
    ++ rest_entered arrays more (exec arrays (steps_of w.work w.vars) store))

-- There is a flag for each remaining site.
abbrev pub RestIsCounted : Type 0
RestIsCounted = (arrays : Arrays) (rest : List WorkAt) (store : Store)
    → length (rest_entered arrays rest store) ≡ rest_sites rest

-- A step that hands out no construct passes only sites that aren't entered.
abbrev pub StepsPassSites : Type 0
StepsPassSites = (arrays : Arrays) (store : Store) (w : WorkAt) (more : List WorkAt)
    → construct_of w.work ≡ None
    → rest_entered arrays (w ∷ more) store
    ≡ replicate (moved_sites arrays store w) false
    ++ rest_entered arrays (moved arrays store w ++ more)
    (after (moved_writes arrays store w.work w.vars) store)

-- A construct is entered with the sites that it enters inside, and then the machine goes on after it.
abbrev pub SuppliesPassSites : Type 0
SuppliesPassSites = (arrays : Arrays) (store : Store) (w : WorkAt) (more : List WorkAt)
    (construct : Statement) → construct_of w.work ≡ Some construct
    → rest_entered arrays (w ∷ more) store
    ≡ statement_entered arrays construct w.vars store
    ++ rest_entered arrays (moved arrays store w ++ more)
    (after (moved_writes arrays store w.work w.vars) store)

-- The sites that jobs enter, one after another, each from its own store.
abbrev pub jobs_entered : Arrays → List JobTree → List Bool
jobs_entered arrays [] = []
jobs_entered arrays (job ∷ more) =
    work_entered arrays job.work job.vars job.store ++ jobs_entered arrays more

-- The sites that the jobs of so many phases enter from this phase on, each over the store that the earlier phases leave.
abbrev pub phases_enter : NestedTree → ℕ → ℕ → List Bool
phases_enter nested phase zero = []
phases_enter nested phase (suc n) =
    jobs_entered (arrays_of nested.arrays) (jobs_in nested phase (store_before nested phase))
    ++ phases_enter nested (phase + 1) n

-- A construct that is handed out is entered, and inside it the sites that its jobs enter.
abbrev pub JobsEnterTheConstruct : Type 0
JobsEnterTheConstruct =
    (nested : NestedTree) → HaveCells (arrays_of nested.arrays) → IsFitNest nested
    → statement_entered (arrays_of nested.arrays) nested.construct nested.vars nested.store
    ≡ true ∷ phases_enter nested 0 (phases_of nested.construct)
