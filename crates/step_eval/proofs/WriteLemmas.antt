-- Writes laid over marked cells, and the cells they lie in.
use Rattle.std.proofs.Common.{◌≡◌, ℕ, suc, Bool, true, false, List, [], ◌∷◌, ◌++◌, length, ℤ, refl, ap, ◌∙◌, arith}
use Rattle.std.specs.Prelude.{nat_lt, nat_eq}
use Rattle.std.proofs.lemmas.Bool.Decides.{nat_tests}
use Rattle.array_tree.specs.Trees.{Statement, Assign, For, If, Par, Team, ended, followed}
use Rattle.array_meaning.specs.Stores.{Arrays, Vars, Store, Write, after, arrays_of, cells_of}
use Rattle.array_meaning.specs.Steps.{Steps, followed_by, writes_of}
use Rattle.array_meaning.specs.Work.{statement_work, sequence_work}
use Rattle.array_meaning.specs.Touch.{walk}
use Rattle.array_meaning.specs.Names.{names_of, are_known}
use Rattle.array_meaning.specs.Pieces.{lay, lays, last_writes, IsAbove, IsRising}
use Rattle.array_meaning.proofs.InsideLemmas.{names_in, names_in_of}
use Rattle.array_meaning.proofs.BelowLemmas.{AreBelow, below_lays}
use Rattle.array_meaning.proofs.KnownLemmas.{writes_below}
use Rattle.array_meaning.proofs.StepLemmas.{writes_followed_by}
use Rattle.array_jobs.specs.Works.{WorkTree, branch_of, member_of, steps_of}
use Rattle.array_jobs.specs.Jobs.{JobTree, IsFit, names_around}
use Rattle.array_jobs.proofs.FitLemmas.{sized, known}
use Rattle.array_eval.specs.Traces.{Trace, marked_from, marked}
use Rattle.array_eval.proofs.TraceLemmas.{above_marked}
use Rattle.step_eval.specs.Moves.{begun_writes, moved_writes}

-- ---- the marked cells rise

-- The marked cells from one on rise.
rising_from : (i : ℕ) (cells : List ℤ) (marks : List Bool) → IsRising (marked_from i cells marks)
rising_from i [] marks = tt
rising_from i (x ∷ cells) [] = tt
rising_from i (x ∷ cells) (true ∷ marks) = (above_marked i (suc i) cells marks (omega arith), rising_from (suc i) cells marks)
rising_from i (x ∷ cells) (false ∷ marks) = rising_from (suc i) cells marks

-- The marked cells rise.
pub rising_marked : (t : Trace) → IsRising (marked t)
rising_marked t = rising_from 0 t.cells t.marks

-- Writes above a cell leave that cell in front.
lays_above : (w : Write) (ws laid : List Write) → IsAbove w.0 ws → lays ws (w ∷ laid) ≡ w ∷ lays ws laid
lays_above w [] laid q = refl
lays_above w (x ∷ ws) laid q =
    let above = q.0 in
    let less : nat_lt x.0 w.0 ≡ false = grind (arith, nat_tests) in
    let same : nat_eq x.0 w.0 ≡ false = grind (arith, nat_tests) in
    rw (less, same) (lays_above w ws (lay x.0 x.1 laid) q.1)

-- The last writes of a rising list are the list.
pub last_writes_rising : (ws : List Write) → IsRising ws → last_writes ws ≡ ws
last_writes_rising [] q = refl
last_writes_rising (w ∷ ws) q = lays_above w ws [] q.0 ∙ ap (λ x. w ∷ x) (last_writes_rising ws q.1)

-- ---- marks

-- ---- the cells that are written

-- If all writes are below a cell, the first ones are.
below_front : (n : ℕ) (a b : List Write) → AreBelow n (a ++ b) → AreBelow n a
below_front n [] b h = tt
below_front n (w ∷ a) b h = (h.0, below_front n a b h.1)

-- If the writes of both are below a cell, those of the first are.
first_below : (arrays : Arrays) (n : ℕ) (a b : Steps) (cells : Store) →
    AreBelow n (writes_of arrays (followed_by a b) cells) → AreBelow n (writes_of arrays a cells)
first_below arrays n a b cells h =
    below_front n (writes_of arrays a cells) (writes_of arrays b (after (writes_of arrays a cells) cells))
    (rw (writes_followed_by arrays a b cells) at h)

-- A statement that begins writes its own writes, the last values of a construct, or nothing.
statement_below : (arrays : Arrays) (n : ℕ) (s : Statement) (vars : Vars) (cells : Store) → AreBelow n (writes_of arrays (statement_work s vars) cells) →
    AreBelow n (begun_writes arrays cells s vars)
statement_below arrays n (Assign line array index value) vars cells h = h
statement_below arrays n (For line var low high body) vars cells h = tt
statement_below arrays n (If line test left right) vars cells h = tt
statement_below arrays n (Par line branches) vars cells h = below_lays n (writes_of arrays (statement_work (Par line branches) vars) cells) [] h tt
statement_below arrays n (Team line var low high members phases) vars cells h =
    below_lays n (writes_of arrays (statement_work (Team line var low high members phases) vars) cells) [] h tt

-- The writes of a step are below the same cell.
work_below : (arrays : Arrays) (n : ℕ) (w : WorkTree) (vars : Vars) (cells : Store) → AreBelow n (writes_of arrays (steps_of w vars) cells) →
    AreBelow n (moved_writes arrays cells w vars)
work_below arrays n (branch_of ended) vars cells h = tt
work_below arrays n (branch_of (followed first rest)) vars cells h =
    statement_below arrays n first vars cells (first_below arrays n (statement_work first vars) (sequence_work rest vars) cells h)
work_below arrays n (member_of var low high body) vars cells h = tt

-- The writes of a fit work lie inside a store with the arrays' cells.
pub steps_below : (job : JobTree) → IsFit job → (cells : Store) → length cells ≡ cells_of (arrays_of job.arrays) →
    AreBelow (length cells) (writes_of (arrays_of job.arrays) (steps_of job.work job.vars) cells)
steps_below job fit cells e =
    let arrays = arrays_of job.arrays in
    let steps = steps_of job.work job.vars in
    let visited : are_known (names_in arrays) (walk arrays steps) ≡ true
    = rw (names_in_of job.arrays) (known arrays (names_of job.arrays) (names_around job.vars) job.work job.vars fit.known_names) in
    let below = writes_below arrays (sized job fit).each steps cells visited fit.indices in
    rw e below

-- The writes of a step of a fit work lie inside the store.
pub moved_below : (job : JobTree) → IsFit job → (cells : Store) → length cells ≡ cells_of (arrays_of job.arrays) →
    AreBelow (length cells) (moved_writes (arrays_of job.arrays) cells job.work job.vars)
moved_below job fit cells e =
    work_below (arrays_of job.arrays) (length cells) job.work job.vars cells (steps_below job fit cells e)
