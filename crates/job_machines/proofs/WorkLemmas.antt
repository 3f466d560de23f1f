-- A step leaves works planned.
use Rattle.std.proofs.Common.{◌≡◌, ℕ, suc, ◌+◌, ◌*◌, Bool, true, false, cond, List, [], ◌∷◌, ◌++◌, length, Some, pos, ◌+ℤ◌, ◌<ℤ◌, refl, sym, ap, ◌∙◌, subst, arith, add-zero, length-append}
use Rattle.std.specs.Prelude.{int_lt}
use Rattle.std.proofs.lemmas.Int.{ints}
use Rattle.array_tree.specs.Trees.{Expression, Statement, Assign, For, If, Par, Team, Sequence, ended, followed}
use Rattle.array_meaning.specs.Values.{holds}
use Rattle.array_meaning.specs.Stores.{Arrays, Vars, Store, value_of}
use Rattle.array_meaning.specs.Work.{span}
use Rattle.array_meaning.specs.Plans.{Parents, repeated, statement_parents, sequence_parents, sites_in, statement_sites_in}
use Rattle.array_meaning.proofs.PlanLemmas.{sequence_length}
use Rattle.array_meaning.proofs.NestingLemmas.{stay_inside_parts}
use Rattle.array_meaning.proofs.StepLemmas.{span_next}
use Rattle.array_jobs.specs.Works.{WorkTree, branch_of, member_of}
use Rattle.step_eval.specs.Rest.{WorkAt, at, before}
use Rattle.step_eval.specs.Moves.{work_moved, work_passes}
use Rattle.step_eval.specs.Machines.{HasMoved, construct_of}
use Rattle.job_machines.specs.Planned.{inside_parents, HasParentsFrom, WorksHave, WorksStayPlanned, ConstructsArePlanned, NumbersRise, StepsRaiseNumbers}
use Rattle.job_machines.proofs.ParentLemmas.{Cuts, planned_cuts, first_parent, first_known, after_first}

pub stands_at : (Has : ℕ → List ℕ → Type 0) (around m n : ℕ) (f : Parents) → m ≡ n → Has m (f around m) → Has n (f around n)
stands_at Has around m n f e h = subst (λ k. Has k (f around k)) e h

pub statement_length : (s : Statement) (around next : ℕ) → length (statement_parents s around next) ≡ statement_sites_in s
statement_length s around next =
    let one = sequence_length (followed s ended) around next in
    let all = length-append (statement_parents s around next) [] in
    omega arith

module _ (Has : ℕ → List ℕ → Type 0) (around : ℕ) (cuts : Cuts Has around) where
  abbrev Works : ℕ → List WorkAt → Type 0
  Works next ws = WorksHave Has around next ws

  -- The same at an equal number.
  works_at : (m n : ℕ) (ws : List WorkAt) → m ≡ n → Works m ws → Works n ws
  works_at m n ws e h = subst (λ k. Works k ws) e h

  part_at : (m n : ℕ) (f : Parents) → m ≡ n → Has m (f around m) → Has n (f around n)
  part_at m n f e h = stands_at Has around m n f e h

  -- The rest after the first statement of a branch, once its sites are passed.
  pub rest_stands : (next : ℕ) (s : Statement) (rest : Sequence) (vars : Vars) (n : ℕ) (more : List WorkAt) → Works next (before (branch_of (followed s rest)) vars n ∷ more) →
      Has next (statement_parents s around next) × Works (next + statement_sites_in s) (before (branch_of rest) vars n ∷ more)
  rest_stands next s rest vars n more h =
      let front = statement_parents s around next in
      let cut = cuts next front (sequence_parents rest) (stay_inside_parts.sequences rest) h.0 in
      let size : next + length front ≡ next + statement_sites_in s = ap (λ n. next + n) (statement_length s around next) in (
        cut.0,
        (
          part_at (next + length front) (next + statement_sites_in s) (sequence_parents rest) size cut.1,
          works_at (next + (statement_sites_in s + sites_in rest) + n) (next + statement_sites_in s + sites_in rest + n) more (omega arith) h.1,
        ),
      )

  -- The two sides of an `if`.
  pub sides_stand : (next line : ℕ) (test : Expression) (left right : Sequence) → Has next (statement_parents (If line test left right) around next) →
      Has next (sequence_parents left around next) × Has (next + sites_in left) (sequence_parents right around (next + sites_in left))
  sides_stand next line test left right h =
      let front = sequence_parents left around next in
      let cut = cuts next front (sequence_parents right) (stay_inside_parts.sequences right) h in
      let size : next + length front ≡ next + sites_in left = ap (λ k. next + k) (sequence_length left around next) in
      (cut.0, part_at (next + length front) (next + sites_in left) (sequence_parents right) size cut.1)

  -- A step leaves the works planned.
  pub work_moves : (next : ℕ) (arrays : Arrays) (store : Store) (w : WorkTree) (vars : Vars) (n : ℕ) (more : List WorkAt) →
      Works next (before w vars n ∷ more) → Works (next + work_passes arrays store w vars n) (work_moved arrays store w vars n ++ more)
  work_moves next arrays store (branch_of ended) vars n more p = works_at (next + 0 + n) (next + n) more (omega arith) p.1
  work_moves next arrays store (branch_of (followed (Assign line array index value) rest)) vars n more p =
      (rest_stands next (Assign line array index value) rest vars n more p).1
  work_moves next arrays store (branch_of (followed (For line var low high body) rest)) vars n more p =
      let cut = rest_stands next (For line var low high body) rest vars n more p in
      let same : next ≡ next + 0 = sym (add-zero next) in (
        part_at next (next + 0) (repeated (span low high) (sequence_parents body)) same cut.0,
        works_at (next + span low high * sites_in body) (next + 0 + span low high * sites_in body + 0) (before (branch_of rest) vars n ∷ more) (omega arith) cut.1,
      )
  work_moves next arrays store (branch_of (followed (If line test left right) rest)) vars n more p =
      let cut = rest_stands next (If line test left right) rest vars n more p in
      let both = sides_stand next line test left right cut.0 in
      side (holds (value_of arrays vars test store)) both.0 both.1 cut.1
    where
      side : (b : Bool) → Has next (sequence_parents left around next) → Has (next + sites_in left) (sequence_parents right around (next + sites_in left)) →
          Works (next + (sites_in left + sites_in right)) (before (branch_of rest) vars n ∷ more) →
          Works (next + cond b 0 (sites_in left)) (cond b (before (branch_of left) vars (sites_in right)) (at (branch_of right) vars) ∷ before (branch_of rest) vars n ∷ more)
      side true first second later = (
        part_at next (next + 0) (sequence_parents left) (sym (add-zero next)) first,
        works_at (next + (sites_in left + sites_in right)) (next + 0 + sites_in left + sites_in right) (before (branch_of rest) vars n ∷ more) (omega arith) later,
      )
      side false first second later =
          (second, works_at (next + (sites_in left + sites_in right)) (next + sites_in left + sites_in right + 0) (before (branch_of rest) vars n ∷ more) (omega arith) later)
  work_moves next arrays store (branch_of (followed (Par line branches) rest)) vars n more p =
      (rest_stands next (Par line branches) rest vars n more p).1
  work_moves next arrays store (branch_of (followed (Team line var low high members phases) rest)) vars n more p =
      (rest_stands next (Team line var low high members phases) rest vars n more p).1
  work_moves next arrays store (member_of var low high body) vars n more p = turn (int_lt low high) refl
    where
      turn : (b : Bool) → int_lt low high ≡ b →
          Works (next + cond b 0 n) (cond b (at (branch_of body) ((var, low) ∷ vars) ∷ before (member_of var (low +ℤ pos 1) high body) vars n ∷ []) [] ++ more)
      turn false e =
          let none : span low high ≡ 0 = rw e refl in
          works_at (next + span low high * sites_in body + n) (next + n) more (rw none (omega arith)) p.1
      turn true e =
          let less : low <ℤ high = grind (arith, ints) in
          let count = span_next low high less in
          let left = span (low +ℤ pos 1) high in
          let st : Has next (repeated (suc left) (sequence_parents body) around next) = subst (λ k. Has next (repeated k (sequence_parents body) around next)) count p.0 in
          let front = sequence_parents body around next in
          let cut = cuts next front (repeated left (sequence_parents body)) (stay_inside_parts.turns left body) st in
          let size = sequence_length body around next in
          let all : next + span low high * sites_in body + n ≡ next + 0 + sites_in body + 0 + left * sites_in body + n = ap (λ k. next + k * sites_in body + n) count ∙ omega arith in (
            part_at next (next + 0) (sequence_parents body) (sym (add-zero next)) cut.0,
            (
              part_at (next + length front) (next + 0 + sites_in body + 0) (repeated left (sequence_parents body)) (omega (arith, size)) cut.1,
              works_at (next + span low high * sites_in body + n) (next + 0 + sites_in body + 0 + left * sites_in body + n) more all p.1,
            ),
          )

  -- The next construct is planned.
  pub construct_stands : (next : ℕ) (w : WorkTree) (vars : Vars) (n : ℕ) (more : List WorkAt) (construct : Statement) → construct_of w ≡ Some construct → Works next (before w vars n ∷ more) →
      Has next (around ∷ inside_parents construct next (next + 1)) × (suc (length (inside_parents construct next (next + 1))) ≡ statement_sites_in construct)
  construct_stands next (branch_of ended) vars n more construct is p = absurd (cc)
  construct_stands next (branch_of (followed (Assign line array index value) rest)) vars n more construct is p = absurd (cc)
  construct_stands next (branch_of (followed (For line var low high body) rest)) vars n more construct is p = absurd (cc)
  construct_stands next (branch_of (followed (If line test left right) rest)) vars n more construct is p = absurd (cc)
  construct_stands next (branch_of (followed (Par line branches) rest)) vars n more construct is p =
      let same : Par line branches ≡ construct = cc in
      subst (λ c. Has next (around ∷ inside_parents c next (next + 1)) × (suc (length (inside_parents c next (next + 1))) ≡ statement_sites_in c)) same
      ((rest_stands next (Par line branches) rest vars n more p).0, statement_length (Par line branches) around next)
  construct_stands next (branch_of (followed (Team line var low high members phases) rest)) vars n more construct is p =
      let same : Team line var low high members phases ≡ construct = cc in
      subst (λ c. Has next (around ∷ inside_parents c next (next + 1)) × (suc (length (inside_parents c next (next + 1))) ≡ statement_sites_in c)) same
      ((rest_stands next (Team line var low high members phases) rest vars n more p).0, statement_length (Team line var low high members phases) around next)
  construct_stands next (member_of var low high body) vars n more construct is p = absurd (cc)

pub works_stay : WorksStayPlanned
works_stay ps around next arrays store w more p = work_moves (HasParentsFrom ps) around (planned_cuts ps around) next arrays store w.work w.vars w.after more p

pub constructs_planned : ConstructsArePlanned
constructs_planned ps around next w more construct is p =
    let inside = inside_parents construct next (next + 1) in
    let there = (construct_stands (HasParentsFrom ps) around (planned_cuts ps around) next w.work w.vars w.after more construct is p).0 in
    let known = first_known ps next around inside there in
    record { some = known.0; known = known.1; parent = first_parent ps next around inside there; inside = after_first ps next around inside there }

-- ---- the number of the next site

pub steps_raise : StepsRaiseNumbers
steps_raise before after moved = raised before.rest moved
  where
    raised : (rest : List WorkAt) → HasMoved rest before after → NumbersRise before after
    raised [] h = absurd h
    raised (w ∷ more) h = record {
      job = ap (λ machine. machine.job) h;
      next = (let e = ap (λ machine. machine.next) h in omega (arith, e));
    }
