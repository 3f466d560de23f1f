-- The jobs of a construct's pieces are planned.
use Rattle.std.proofs.Common.{◌≡◌, ℕ, zero, suc, ◌+◌, ◌-◌, ◌*◌, ◌<◌, ◌≤◌, ℤ, List, [], ◌∷◌, ◌++◌, length, sym, ap, ◌∙◌, subst, arith, add-zero, append_assoc, length-append, unsigned_abs}
use Rattle.std.proofs.Math.Nat.{mul-add}
use Rattle.array_tree.specs.Trees.{Statement, Assign, For, If, Par, Team, Sequence, Sequences, no_more, beside}
use Rattle.array_meaning.specs.Stores.{Store}
use Rattle.array_meaning.specs.Work.{span}
use Rattle.array_meaning.specs.Members.{start_of, first_of}
use Rattle.array_meaning.specs.Limits.{count_of}
use Rattle.array_meaning.specs.Plans.{Parents, repeated, sequence_parents, branches_parents, phases_parents, sites_in}
use Rattle.array_meaning.proofs.PlanLemmas.{sequence_length}
use Rattle.array_meaning.proofs.NestingLemmas.{stay_inside_parts}
use Rattle.array_meaning.proofs.MemberLemmas.{span_cut}
use Rattle.array_jobs.specs.Works.{WorkTree, sites_of}
use Rattle.step_eval.proofs.NestParts.{first_of_grows, first_of_none, first_of_all}
use Rattle.step_eval.specs.Nests.{NestedTree, phases_of, branch_trees, member_trees, piece_trees, phase_at, sites_before, earlier_sites, numbered, jobs_in}
use Rattle.job_machines.specs.Planned.{HasParentsFrom, JobsHave, inside_parents, JobsArePlanned, AreNumberedAbove, JobsAreNumberedAbove}
use Rattle.job_machines.proofs.ParentLemmas.{Cuts, planned_cuts}
use Rattle.job_machines.proofs.WorkLemmas.{stands_at}

repeated_length : (n m : ℕ) (f : Parents) → ((around next : ℕ) → length (f around next) ≡ m) → (around next : ℕ) → length (repeated n f around next) ≡ n * m
repeated_length zero m f each around next = omega arith
repeated_length (suc n) m f each around next =
    let l = length-append (f around next) (repeated n f around (next + length (f around next))) in
    let one = each around next in
    let rest = repeated_length n m f each around (next + length (f around next)) in
    omega arith

repeated_add : (a b c : ℕ) (f : Parents) (around next : ℕ) → c ≡ a + b → repeated c f around next ≡ repeated a f around next ++ repeated b f around (next + length (repeated a f around next))
repeated_add zero b c f around next e =
    let same : c ≡ b = omega (arith, e) in
    ap (λ k. repeated k f around next) same ∙ ap (λ n. repeated b f around n) (sym (add-zero next))
repeated_add (suc a) b zero f around next e = absurd (omega (arith, e))
repeated_add (suc a) b (suc c) f around next e =
    let front = f around next in
    let n = next + length front in
    let ra = repeated a f around n in
    let less : c ≡ a + b = omega (arith, e) in
    let place : n + length ra ≡ next + length (front ++ ra) = omega (arith, length-append front ra) in
    ap (λ xs. front ++ xs) (repeated_add a b c f around n less)
    ∙ sym (append_assoc front ra (repeated b f around (n + length ra)))
    ∙ ap (λ k. (front ++ ra) ++ repeated b f around k) place

module _ (Has : ℕ → List ℕ → Type 0) where
  branches_stand : (nested : NestedTree) → Cuts Has nested.site → (phase : ℕ) (store : Store) (bs : Sequences) (place first : ℕ) →
      Has first (branches_parents bs nested.site first) → JobsHave Has (numbered nested phase store place first (branch_trees bs))
  branches_stand nested cuts phase store no_more place first st = tt
  branches_stand nested cuts phase store (beside branch rest) place first st =
      let front = sequence_parents branch nested.site first in
      let cut = cuts first front (branches_parents rest) (stay_inside_parts.branches rest) st in
      let size : first + length front ≡ first + sites_in branch = ap (λ n. first + n) (sequence_length branch nested.site first) in (
        cut.0,
        branches_stand nested cuts phase store rest (place + 1) (first + sites_in branch)
            (stands_at Has nested.site (first + length front) (first + sites_in branch) (branches_parents rest) size cut.1),
      )

  phase_stands : (around : ℕ) → Cuts Has around → (iterations : ℕ) (phases : Sequences) (k n : ℕ) → k < count_of phases → Has n (phases_parents phases iterations around n) →
      Has (n + iterations * sites_before phases k) (repeated iterations (sequence_parents (phase_at phases k)) around (n + iterations * sites_before phases k))
  phase_stands around cuts iterations no_more k n small st = absurd (omega arith)
  phase_stands around cuts iterations (beside first rest) zero n small st =
      let front = repeated iterations (sequence_parents first) around n in
      let cut = cuts n front (phases_parents rest iterations) (stay_inside_parts.phases rest iterations) st in
      let none : n ≡ n + iterations * 0 = omega arith in
      stands_at Has around n (n + iterations * 0) (repeated iterations (sequence_parents first)) none cut.0
  phase_stands around cuts iterations (beside first rest) (suc k) n small st =
      let front = repeated iterations (sequence_parents first) around n in
      let cut = cuts n front (phases_parents rest iterations) (stay_inside_parts.phases rest iterations) st in
      let size : length front ≡ iterations * sites_in first = repeated_length iterations (sites_in first) (sequence_parents first) (sequence_length first) around n in
      let more = phase_stands around cuts iterations rest k (n + length front) (omega arith) cut.1 in
      let sum = mul-add iterations (sites_in first) (sites_before rest k) in
      stands_at Has around (n + length front + iterations * sites_before rest k) (n + iterations * (sites_in first + sites_before rest k)) (repeated iterations (sequence_parents (phase_at rest k)))
      (omega (arith, size, sum)) more

  members_stand : (nested : NestedTree) → Cuts Has nested.site → (phase : ℕ) (store : Store) (place first : ℕ) (var : List ℕ) (low high : ℤ) (m : ℕ) (body : Sequence) (j k : ℕ) → j + k ≡ m →
      Has first (repeated (span low high - first_of (span low high) m j) (sequence_parents body) nested.site first) →
      JobsHave Has (numbered nested phase store place first (member_trees var low high m body j k))
  members_stand nested cuts phase store place first var low high m body j zero count st = tt
  members_stand nested cuts phase store place first var low high m body j (suc k) count st =
      let n = span low high in
      let a = first_of n m j in
      let b = first_of n m (j + 1) in
      let ordered : a ≤ b = first_of_grows n m j (j + 1) (omega arith) in
      let later : b ≤ first_of n m m = first_of_grows n m (j + 1) m (omega arith) in
      let end : first_of n m m ≡ n = first_of_all n m (omega arith) in
      let own : span (start_of low high m j) (start_of low high m (j + 1)) ≡ b - a = span_cut low a b ordered in
      let f = sequence_parents body in
      let sum : n - a ≡ (b - a) + (n - b) = omega (arith, ordered, later, end) in
      let front = repeated (b - a) f nested.site first in
      let both : Has first (front ++ repeated (n - b) f nested.site (first + length front)) =
      subst (λ xs. Has first xs) (repeated_add (b - a) (n - b) (n - a) f nested.site first sum) st in
      let cut = cuts first front (repeated (n - b) f) (stay_inside_parts.turns (n - b) body) both in
      let size : length front ≡ (b - a) * sites_in body = repeated_length (b - a) (sites_in body) f (sequence_length body) nested.site first in
      let next : first + length front ≡ first + span (start_of low high m j) (start_of low high m (j + 1)) * sites_in body =
      ap (λ c. first + c) (size ∙ ap (λ c. c * sites_in body) (sym own)) in (
        subst (λ c. Has first (repeated c f nested.site first)) (sym own) cut.0,
        members_stand nested cuts phase store (place + 1) (first + span (start_of low high m j) (start_of low high m (j + 1)) * sites_in body) var low high m body (j + 1) k (omega arith)
            (stands_at Has nested.site (first + length front) (first + span (start_of low high m j) (start_of low high m (j + 1)) * sites_in body) (repeated (n - b) f) next cut.1),
      )

  in_construct : (nested : NestedTree) → Cuts Has nested.site → (phase : ℕ) (store : Store) (construct : Statement) → phase < phases_of construct →
      Has (nested.site + 1) (inside_parents construct nested.site (nested.site + 1)) → JobsHave Has (jobs_in (record nested { construct = construct }) phase store)
  in_construct nested cuts phase store (Assign line array index value) small st = absurd (omega arith)
  in_construct nested cuts phase store (For line var low high body) small st = absurd (omega arith)
  in_construct nested cuts phase store (If line cond then_block else_block) small st = absurd (omega arith)
  in_construct nested cuts phase store (Par line branches) small st =
      branches_stand (record nested { construct = Par line branches }) cuts phase store branches 0 (nested.site + 1 + 0)
      (stands_at Has nested.site (nested.site + 1) (nested.site + 1 + 0) (branches_parents branches) (sym (add-zero (nested.site + 1))) st)
  in_construct nested cuts phase store (Team line var low high members phases) small st =
      let n = span low high in
      let m = unsigned_abs members in
      let first = nested.site + 1 + n * sites_before phases phase in
      let there = phase_stands nested.site cuts n phases phase (nested.site + 1) small st in
      let all : n ≡ n - first_of n m 0 = (let start = first_of_none n m in omega (arith, start)) in
      members_stand (record nested { construct = Team line var low high members phases }) cuts phase store 0 first var low high m (phase_at phases phase) 0 m (omega arith)
      (subst (λ c. Has first (repeated c (sequence_parents (phase_at phases phase)) nested.site first)) all there)

  -- A property of the sites inside a construct holds of those of its jobs.
  pub jobs_stand : (nested : NestedTree) → Cuts Has nested.site → (phase : ℕ) (store : Store) → phase < phases_of nested.construct →
      Has (nested.site + 1) (inside_parents nested.construct nested.site (nested.site + 1)) → JobsHave Has (jobs_in nested phase store)
  jobs_stand nested cuts phase store small st = in_construct nested cuts phase store nested.construct small st

pub jobs_planned : JobsArePlanned
jobs_planned ps nested phase store small st = jobs_stand (HasParentsFrom ps) nested (planned_cuts ps nested.site) phase store small st

-- ---- the numbers of the sites inside

numbered_above : (nested : NestedTree) (phase : ℕ) (store : Store) (place first : ℕ) (works : List WorkTree) → nested.site < first →
    AreNumberedAbove (numbered nested phase store place first works)
numbered_above nested phase store place first [] h = tt
numbered_above nested phase store place first (work ∷ more) h =
    (h, numbered_above nested phase store (place + 1) (first + sites_of work) more (omega (arith, h)))

pub jobs_above : JobsAreNumberedAbove
jobs_above nested phase store =
    numbered_above nested phase store 0 (nested.site + 1 + earlier_sites nested.construct phase) (piece_trees nested.construct phase) (omega arith)
