-- The number of steps left falls.
use Rattle.std.proofs.Common.{◌≡◌, ℕ, ◌+◌, ◌-◌, ◌*◌, ◌<◌, Bool, true, false, cond, List, [], ◌∷◌, ◌++◌, Some, ℤ, pos, ◌+ℤ◌, ◌<ℤ◌, refl, arith}
use Rattle.std.specs.Prelude.{int_lt}
use Rattle.std.proofs.lemmas.Int.{ints}
use Rattle.array_tree.specs.Trees.{Statement, Assign, For, If, Par, Team, ended, followed}
use Rattle.array_meaning.specs.Values.{holds}
use Rattle.array_meaning.specs.Stores.{Arrays, Vars, Store, value_of}
use Rattle.array_meaning.specs.Work.{span}
use Rattle.array_meaning.specs.Plans.{sites_in}
use Rattle.array_meaning.proofs.StepLemmas.{span_next}
use Rattle.array_jobs.specs.Works.{WorkTree, branch_of, member_of}
use Rattle.step_eval.specs.Rest.{WorkAt, at, before}
use Rattle.step_eval.specs.Moves.{work_moved, moved, sequence_left, work_left, rest_left}
use Rattle.step_eval.specs.Machines.{construct_of}

-- The steps of the turns: those of the first turn, and those of the later ones.
pub span_times : (low high : ℤ) (m : ℕ) → int_lt low high ≡ true → span low high * m ≡ m + span (low +ℤ pos 1) high * m
span_times low high m h = let less : low <ℤ high = grind (arith, ints) in let one = span_next low high less in rw one (omega arith)

-- A statement takes one step to begin, and one to end what it leaves; so does a turn.
work_moves : (arrays : Arrays) (store : Store) (w : WorkTree) (vars : Vars) (n : ℕ) (more : List WorkAt) →
    rest_left (work_moved arrays store w vars n ++ more) < rest_left (before w vars n ∷ more)
work_moves arrays store (branch_of ended) vars n more = omega arith
work_moves arrays store (branch_of (followed (Assign line array index value) rest)) vars n more = omega arith
work_moves arrays store (branch_of (followed (For line var low high body) rest)) vars n more = omega arith
work_moves arrays store (branch_of (followed (If line test left right) rest)) vars n more = cases (holds (value_of arrays vars test store))
  where
    cases : (b : Bool) → rest_left (cond b (before (branch_of left) vars (sites_in right)) (at (branch_of right) vars) ∷ before (branch_of rest) vars n ∷ more)
        < rest_left (before (branch_of (followed (If line test left right) rest)) vars n ∷ more)
    cases true = omega arith
    cases false = omega arith
work_moves arrays store (branch_of (followed (Par line branches) rest)) vars n more = omega arith
work_moves arrays store (branch_of (followed (Team line var low high members phases) rest)) vars n more = omega arith
work_moves arrays store (member_of var low high body) vars n more = cases (int_lt low high) refl
  where
    cases : (b : Bool) → int_lt low high ≡ b →
        rest_left (cond b (at (branch_of body) ((var, low) ∷ vars) ∷ before (member_of var (low +ℤ pos 1) high body) vars n ∷ []) [] ++ more)
        < rest_left (before (member_of var low high body) vars n ∷ more)
    cases true e = let turn = span_times low high (2 + sequence_left body) e in omega (arith, turn)
    cases false e = omega arith

-- A step leaves fewer steps.
pub left_moved : (arrays : Arrays) (store : Store) (w : WorkAt) (more : List WorkAt) →
    rest_left (moved arrays store w ++ more) < rest_left (w ∷ more)
left_moved arrays store w more = work_moves arrays store w.work w.vars w.after more

-- A machine with a work has a step left.
pub left_positive : (w : WorkAt) (more : List WorkAt) → 0 < rest_left (w ∷ more)
left_positive w more = by w.work
  where
    by : (work : WorkTree) → 0 < work_left work + rest_left more
    by (branch_of body) = omega arith
    by (member_of var low high body) = omega arith

-- A machine without its first work has fewer steps left.
pub left_dropped : (w : WorkAt) (more : List WorkAt) → rest_left more < rest_left (w ∷ more)
left_dropped w more = by w.work
  where
    by : (work : WorkTree) → rest_left more < work_left work + rest_left more
    by (branch_of body) = omega arith
    by (member_of var low high body) = omega arith

-- A construct leaves only the statements after it.
past_construct : (arrays : Arrays) (store : Store) (w : WorkTree) (vars : Vars) (n : ℕ) (more : List WorkAt) (c : Statement) → construct_of w ≡ Some c →
    rest_left (work_moved arrays store w vars n ++ more) ≡ rest_left (before w vars n ∷ more) - 1
past_construct arrays store (branch_of (followed (Par line branches) rest)) vars n more c e = omega arith
past_construct arrays store (branch_of (followed (Team line var low high members phases) rest)) vars n more c e = omega arith
past_construct arrays store w vars n more c e = cc

-- A construct that is passed takes one step.
pub left_passed : (arrays : Arrays) (store : Store) (w : WorkAt) (more : List WorkAt) (c : Statement) → construct_of w.work ≡ Some c →
    rest_left (moved arrays store w ++ more) ≡ rest_left (w ∷ more) - 1
left_passed arrays store w more c e = past_construct arrays store w.work w.vars w.after more c e
