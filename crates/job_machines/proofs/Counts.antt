-- The numbers of sites that are passed and left.
use Rattle.std.proofs.Common.{◌≡◌, ℕ, zero, suc, ◌+◌, ◌<◌, ◌≤◌, Bool, true, false, cond, List, [], ◌∷◌, ◌++◌, length, replicate, Option, Some, None, refl, ap, arith, length-append}
use Rattle.std.proofs.lemmas.List.{length-replicate}
use Rattle.array_tree.specs.Trees.{Assign, For, If, Par, Team, ended, followed}
use Rattle.array_meaning.specs.Values.{holds}
use Rattle.array_meaning.specs.Stores.{Arrays, Vars, Store, value_of}
use Rattle.array_meaning.specs.Steps.{exec}
use Rattle.array_meaning.specs.Work.{span, sequence_work}
use Rattle.array_meaning.specs.Plans.{sites_in}
use Rattle.array_meaning.specs.Entered.{sequence_entered}
use Rattle.array_meaning.proofs.EnteredLemmas.{sequence_length, turns_length}
use Rattle.array_jobs.specs.Works.{WorkTree, branch_of, member_of, steps_of, sites_of}
use Rattle.step_eval.specs.Rest.{WorkAt, rest_sites}
use Rattle.step_eval.specs.Passes.{some_span, work_pass}
use Rattle.job_machines.specs.Passes.{PassesAreWithin}
use Rattle.job_machines.specs.Entering.{work_entered, rest_entered, RestIsCounted}

-- ---- spans that are passed

of_span : (next first n low high : ℕ) (span : ℕ × ℕ) → some_span first n ≡ Some span → low ≤ first → first + n ≤ high → (span.0 < span.1) × (low ≤ span.0) × (span.1 ≤ high)
of_span next first zero low high span e a b = absurd (cc)
of_span next first (suc n) low high span e a b =
    let start : first ≡ span.0 = ap (λ (o : Option (ℕ × ℕ)). first_in o) e in
    let end : first + suc n ≡ span.1 = ap (λ (o : Option (ℕ × ℕ)). second_in o) e in
    (omega (arith, start, end), omega (arith, start, a), omega (arith, end, b))
  where
    first_in : Option (ℕ × ℕ) → ℕ
    first_in None = 0
    first_in (Some s) = s.0

    second_in : Option (ℕ × ℕ) → ℕ
    second_in None = 0
    second_in (Some s) = s.1

work_within : (arrays : Arrays) (store : Store) (next : ℕ) (w : WorkTree) (vars : Vars) (n : ℕ) (more : List WorkAt) (span : ℕ × ℕ) →
    work_pass arrays store next w vars ≡ Some span → (span.0 < span.1) × (next ≤ span.0) × (span.1 ≤ next + (sites_of w + n + rest_sites more))
work_within arrays store next (branch_of ended) vars n more span e = absurd (cc)
work_within arrays store next (branch_of (followed (Assign line array index value) rest)) vars n more span e = absurd (cc)
work_within arrays store next (branch_of (followed (For line var low high body) rest)) vars n more span e = absurd (cc)
work_within arrays store next (branch_of (followed (If line test left right) rest)) vars n more span e = cases (holds (value_of arrays vars test store)) e
  where
    cases : (b : Bool) → cond b (some_span (next + sites_in left) (sites_in right)) (some_span next (sites_in left)) ≡ Some span →
        (span.0 < span.1) × (next ≤ span.0) × (span.1 ≤ next + (sites_in left + sites_in right + sites_in rest + n + rest_sites more))
    cases true f = of_span next (next + sites_in left) (sites_in right) next (next + (sites_in left + sites_in right + sites_in rest + n + rest_sites more)) span f (omega arith) (omega arith)
    cases false f = of_span next next (sites_in left) next (next + (sites_in left + sites_in right + sites_in rest + n + rest_sites more)) span f (omega arith) (omega arith)
work_within arrays store next (branch_of (followed (Par line branches) rest)) vars n more span e = absurd (cc)
work_within arrays store next (branch_of (followed (Team line var low high members phases) rest)) vars n more span e = absurd (cc)
work_within arrays store next (member_of var low high body) vars n more span e = absurd (cc)

pub passes_are_within : PassesAreWithin
passes_are_within arrays store next [] span e = absurd (cc)
passes_are_within arrays store next (w ∷ more) span e =
    let is = work_within arrays store next w.work w.vars w.after more span e in
    record { some = is.0; low = is.1; high = is.2 }

-- ---- lengths

pub work_length : (arrays : Arrays) (w : WorkTree) (vars : Vars) (store : Store) → length (work_entered arrays w vars store) ≡ sites_of w
work_length arrays (branch_of body) vars store = sequence_length arrays body vars store
work_length arrays (member_of var low high body) vars store =
    turns_length arrays (span low high) (sites_in body) (λ x. sequence_work body ((var, x) ∷ vars)) (λ x. sequence_entered arrays body ((var, x) ∷ vars)) low
    (λ x. sequence_length arrays body ((var, x) ∷ vars)) store

pub rest_is_counted : RestIsCounted
rest_is_counted arrays [] store = refl
rest_is_counted arrays (w ∷ more) store =
    let then = exec arrays (steps_of w.work w.vars) store in
    let here = work_length arrays w.work w.vars store in
    let gap = length-replicate w.after false in
    let rest = rest_is_counted arrays more then in
    let one = length-append (work_entered arrays w.work w.vars store) (replicate w.after false ++ rest_entered arrays more then) in
    let two = length-append (replicate w.after false) (rest_entered arrays more then) in
    omega (arith, here, gap, rest, one, two)
