-- How a machine passes the sites that it enters, and the others.
use Rattle.std.proofs.Common.{◌≡◌, ℕ, suc, Bool, true, false, cond, List, [], ◌∷◌, ◌++◌, replicate, Option, Some, None, ℤ, pos, ◌+ℤ◌, ◌<ℤ◌, refl, sym, ap, ◌∙◌, arith, append_assoc}
use Rattle.std.specs.Prelude.{int_lt}
use Rattle.std.proofs.lemmas.Int.{ints}
use Rattle.array_tree.specs.Trees.{Statement, Assign, For, If, Par, Team, Sequence, ended, followed}
use Rattle.array_meaning.specs.Values.{holds}
use Rattle.array_meaning.specs.Stores.{Arrays, Vars, Store, after, value_of}
use Rattle.array_meaning.specs.Steps.{Choose, Done, exec, writes_of}
use Rattle.array_meaning.specs.Work.{span, turns, statement_work, sequence_work}
use Rattle.array_meaning.specs.Plans.{sites_in}
use Rattle.array_meaning.specs.Pieces.{piece_of}
use Rattle.array_meaning.specs.Entered.{statement_entered, sequence_entered, turns_entered}
use Rattle.array_meaning.proofs.StepLemmas.{exec_followed_by, exec_choose, span_next}
use Rattle.array_meaning.proofs.MergeLemmas.{after_last}
use Rattle.array_jobs.specs.Works.{WorkTree, branch_of, member_of, steps_of}
use Rattle.step_eval.specs.Rest.{WorkAt, at, before}
use Rattle.step_eval.specs.Moves.{work_moved, moved_writes, work_passes}
use Rattle.step_eval.specs.Machines.{construct_of}
use Rattle.job_machines.specs.Entering.{work_entered, rest_entered, StepsPassSites, SuppliesPassSites}

abbrev found : Statement → Option Statement → Statement
found other None = other
found other (Some c) = c

-- After the first statement of a work come its rest and what is behind the work.
behind : (arrays : Arrays) (first : Statement) (rest : Sequence) (vars : Vars) (n : ℕ) (more : List WorkAt) (store : Store) (front : List Bool) →
    (front ++ sequence_entered arrays rest vars (exec arrays (statement_work first vars) store))
    ++ (replicate n false ++ rest_entered arrays more (exec arrays (sequence_work (followed first rest) vars) store))
    ≡ front ++ rest_entered arrays (before (branch_of rest) vars n ∷ more) (exec arrays (statement_work first vars) store)
behind arrays first rest vars n more store front =
    let then = exec arrays (statement_work first vars) store in
    append_assoc front (sequence_entered arrays rest vars then) (replicate n false ++ rest_entered arrays more (exec arrays (sequence_work (followed first rest) vars) store))
    ∙ ap (λ s. front ++ (sequence_entered arrays rest vars then ++ (replicate n false ++ rest_entered arrays more s))) (exec_followed_by arrays (statement_work first vars) (sequence_work rest vars) store)

abbrev Goes : Arrays → Store → WorkTree → Vars → ℕ → List WorkAt → Type 0
Goes arrays store w vars n more =
    rest_entered arrays (before w vars n ∷ more) store
    ≡ replicate (work_passes arrays store w vars n) false
    ++ rest_entered arrays (work_moved arrays store w vars n ++ more) (after (moved_writes arrays store w vars) store)

work_goes : (arrays : Arrays) (store : Store) (w : WorkTree) (vars : Vars) (n : ℕ) (more : List WorkAt) → construct_of w ≡ None → Goes arrays store w vars n more
work_goes arrays store (branch_of ended) vars n more none = refl
work_goes arrays store (branch_of (followed (Assign line array index value) rest)) vars n more none = behind arrays (Assign line array index value) rest vars n more store []
work_goes arrays store (branch_of (followed (For line var low high body) rest)) vars n more none =
    behind arrays (For line var low high body) rest vars n more store (statement_entered arrays (For line var low high body) vars store)
work_goes arrays store (branch_of (followed (If line test left right) rest)) vars n more none =
    behind arrays (If line test left right) rest vars n more store (statement_entered arrays (If line test left right) vars store)
    ∙ sides (holds (value_of arrays vars test store)) (exec arrays (Choose line vars test (sequence_work left vars) (sequence_work right vars) Done) store)
    (exec_choose arrays line vars test (sequence_work left vars) (sequence_work right vars) store)
  where
    sides : (b : Bool) (then : Store) → then ≡ cond b (exec arrays (sequence_work left vars) store) (exec arrays (sequence_work right vars) store) →
        cond b (sequence_entered arrays left vars store ++ replicate (sites_in right) false) (replicate (sites_in left) false ++ sequence_entered arrays right vars store)
        ++ rest_entered arrays (before (branch_of rest) vars n ∷ more) then
        ≡ replicate (cond b 0 (sites_in left)) false
        ++ rest_entered arrays (cond b (before (branch_of left) vars (sites_in right)) (at (branch_of right) vars) ∷ before (branch_of rest) vars n ∷ more) store
    sides true then is =
        ap (λ s. (sequence_entered arrays left vars store ++ replicate (sites_in right) false) ++ rest_entered arrays (before (branch_of rest) vars n ∷ more) s) is
        ∙ append_assoc (sequence_entered arrays left vars store) (replicate (sites_in right) false) (rest_entered arrays (before (branch_of rest) vars n ∷ more) (exec arrays (sequence_work left vars) store))
    sides false then is =
        ap (λ s. (replicate (sites_in left) false ++ sequence_entered arrays right vars store) ++ rest_entered arrays (before (branch_of rest) vars n ∷ more) s) is
        ∙ append_assoc (replicate (sites_in left) false) (sequence_entered arrays right vars store) (rest_entered arrays (before (branch_of rest) vars n ∷ more) (exec arrays (sequence_work right vars) store))
work_goes arrays store (branch_of (followed (Par line branches) rest)) vars n more none = cc
work_goes arrays store (branch_of (followed (Team line var low high members phases) rest)) vars n more none = cc
work_goes arrays store (member_of var low high body) vars n more none = cases (int_lt low high) refl
  where
    cases : (b : Bool) → int_lt low high ≡ b →
        work_entered arrays (member_of var low high body) vars store ++ (replicate n false ++ rest_entered arrays more (exec arrays (steps_of (member_of var low high body) vars) store))
        ≡ replicate (cond b 0 n) false
        ++ rest_entered arrays (cond b (at (branch_of body) ((var, low) ∷ vars) ∷ before (member_of var (low +ℤ pos 1) high body) vars n ∷ []) [] ++ more) store
    cases true e =
        let less : low <ℤ high = grind (arith, ints) in
        let count : span low high ≡ suc (span (low +ℤ pos 1) high) = span_next low high less in
        let k = span (low +ℤ pos 1) high in
        let works = λ (x : ℤ). sequence_work body ((var, x) ∷ vars) in
        let enters = λ (x : ℤ). sequence_entered arrays body ((var, x) ∷ vars) in
        let first = sequence_entered arrays body ((var, low) ∷ vars) store in
        let then = exec arrays (works low) store in
        ap (λ c. turns_entered arrays (λ x. (works x, enters x)) low c store ++ (replicate n false ++ rest_entered arrays more (exec arrays (turns works low c) store))) count
        ∙ append_assoc first (turns_entered arrays (λ x. (works x, enters x)) (low +ℤ pos 1) k then) (replicate n false ++ rest_entered arrays more (exec arrays (turns works low (suc k)) store))
        ∙ ap (λ s. first ++ (turns_entered arrays (λ x. (works x, enters x)) (low +ℤ pos 1) k then ++ (replicate n false ++ rest_entered arrays more s)))
        (exec_followed_by arrays (works low) (turns works (low +ℤ pos 1) k) store)
    cases false e =
        let count : span low high ≡ 0 = rw e refl in
        let works = λ (x : ℤ). sequence_work body ((var, x) ∷ vars) in
        let enters = λ (x : ℤ). sequence_entered arrays body ((var, x) ∷ vars) in
        ap (λ c. turns_entered arrays (λ x. (works x, enters x)) low c store ++ (replicate n false ++ rest_entered arrays more (exec arrays (turns works low c) store))) count

pub steps_pass_sites : StepsPassSites
steps_pass_sites arrays store w more none = work_goes arrays store w.work w.vars w.after more none

-- The store after a construct is the one that its piece leaves.
work_enters : (arrays : Arrays) (store : Store) (w : WorkTree) (vars : Vars) (n : ℕ) (more : List WorkAt) (c : Statement) → construct_of w ≡ Some c →
    rest_entered arrays (before w vars n ∷ more) store
    ≡ statement_entered arrays c vars store ++ rest_entered arrays (work_moved arrays store w vars n ++ more) (after (moved_writes arrays store w vars) store)
work_enters arrays store (branch_of (followed (Par line branches) rest)) vars n more c e =
    let first = Par line branches in
    let is : first ≡ c = ap (λ (o : Option Statement). found first o) e in
    behind arrays first rest vars n more store (statement_entered arrays first vars store)
    ∙ ap (λ s. statement_entered arrays first vars store ++ rest_entered arrays (before (branch_of rest) vars n ∷ more) s) (sym (after_last (writes_of arrays (statement_work first vars) store) store))
    ∙ ap (λ d. statement_entered arrays d vars store ++ rest_entered arrays (before (branch_of rest) vars n ∷ more) (after (piece_of arrays (statement_work first vars) store) store)) is
work_enters arrays store (branch_of (followed (Team line var low high members phases) rest)) vars n more c e =
    let first = Team line var low high members phases in
    let is : first ≡ c = ap (λ (o : Option Statement). found first o) e in
    behind arrays first rest vars n more store (statement_entered arrays first vars store)
    ∙ ap (λ s. statement_entered arrays first vars store ++ rest_entered arrays (before (branch_of rest) vars n ∷ more) s) (sym (after_last (writes_of arrays (statement_work first vars) store) store))
    ∙ ap (λ d. statement_entered arrays d vars store ++ rest_entered arrays (before (branch_of rest) vars n ∷ more) (after (piece_of arrays (statement_work first vars) store) store)) is
work_enters arrays store w vars n more c e = cc

pub supplies_pass_sites : SuppliesPassSites
supplies_pass_sites arrays store w more c e = work_enters arrays store w.work w.vars w.after more c e
