-- The jobs of all phases of a construct have exactly the sites inside it.
use Rattle.std.proofs.Common.{◌≡◌, ℕ, zero, suc, ◌+◌, ◌-◌, ◌*◌, ◌<◌, ◌≤◌, true, ℤ, pos, negsuc, List, [], ◌∷◌, ◌++◌, refl, sym, ap, ◌∙◌, arith, unsigned_abs}
use Rattle.std.specs.Prelude.{IsTrue, ◌&&◌, int_le}
use Rattle.std.proofs.lemmas.Bool.{false≢true, and_parts}
use Rattle.std.proofs.lemmas.List.{append-nil}
use Rattle.std.proofs.lemmas.Bool.Decides.{nat_tests}
use Rattle.std.proofs.Math.Nat.{add-mul, mul-add}
use Rattle.array_tree.specs.Trees.{Statement, Assign, For, If, Par, Team, Sequence, Sequences, no_more, beside}
use Rattle.array_meaning.specs.Stores.{Store}
use Rattle.array_meaning.specs.Work.{span}
use Rattle.array_meaning.specs.Members.{first_of, start_of}
use Rattle.array_meaning.specs.Plans.{sites_in, branches_sites_in, statement_sites_in}
use Rattle.array_meaning.specs.Limits.{is_up_to, count_of, have_right_ranges, statement_has_right_ranges}
use Rattle.array_meaning.proofs.MemberLemmas.{span_cut}
use Rattle.array_jobs.specs.Works.{WorkTree, sites_of}
use Rattle.step_eval.specs.Nests.{NestedTree, phases_of, branch_trees, member_trees, phase_at, sites_before, numbered, jobs_in, is_construct}
use Rattle.step_eval.proofs.NestLemmas.{sites_before_phase}
use Rattle.step_eval.proofs.NestParts.{first_of_grows, first_of_none, first_of_all}
use Rattle.step_eval.proofs.PieceLemmas.{none_before}
use Rattle.job_machines.specs.Numbers.{numbers_from, sites_of_jobs, sites_of_phases, JobsHaveTheSitesInside}

-- Consecutive numbers split into a front and a rest.
joined : (a b c first : ℕ) → c ≡ a + b → numbers_from first c ≡ numbers_from first a ++ numbers_from (first + a) b
joined zero b c first e =
    let same : c ≡ b = omega (arith, e) in
    let place : first ≡ first + 0 = omega arith in
    ap (numbers_from first) same ∙ ap (λ n. numbers_from n b) place
joined (suc a) b zero first e = absurd (omega (arith, e))
joined (suc a) b (suc c) first e =
    let place : first + 1 + a ≡ first + suc a = omega arith in
    ap (λ xs. first ∷ xs) (joined a b c (first + 1) (omega (arith, e)) ∙ ap (λ n. numbers_from (first + 1) a ++ numbers_from n b) place)

-- ---- the jobs of a phase

abbrev works_sites : List WorkTree → ℕ
works_sites [] = 0
works_sites (work ∷ more) = sites_of work + works_sites more

works_range : (nested : NestedTree) (phase : ℕ) (store : Store) (place first : ℕ) (works : List WorkTree) →
    sites_of_jobs (numbered nested phase store place first works) ≡ numbers_from first (works_sites works)
works_range nested phase store place first [] = refl
works_range nested phase store place first (work ∷ more) =
    ap (λ xs. numbers_from first (sites_of work) ++ xs) (works_range nested phase store (place + 1) (first + sites_of work) more)
    ∙ sym (joined (sites_of work) (works_sites more) (sites_of work + works_sites more) first refl)

branch_sites : (bs : Sequences) → works_sites (branch_trees bs) ≡ branches_sites_in bs
branch_sites no_more = refl
branch_sites (beside first rest) = ap (λ n. sites_in first + n) (branch_sites rest)

member_sites : (var : List ℕ) (low high : ℤ) (m : ℕ) (body : Sequence) (j k : ℕ) → 0 < m → j + k ≡ m →
    works_sites (member_trees var low high m body j k) ≡ (span low high - first_of (span low high) m j) * sites_in body
member_sites var low high m body j zero some count =
    let n = span low high in
    let last : j ≡ m = omega (arith, count) in
    let end : first_of n m j ≡ n = ap (first_of n m) last ∙ first_of_all n m some in
    let none : 0 ≡ n - first_of n m j = omega (arith, end) in
    let nothing : 0 ≡ 0 * sites_in body = omega arith in
    nothing ∙ ap (λ c. c * sites_in body) none
member_sites var low high m body j (suc k) some count =
    let n = span low high in
    let each = sites_in body in
    let a = first_of n m j in
    let b = first_of n m (j + 1) in
    let ordered : a ≤ b = first_of_grows n m j (j + 1) (omega arith) in
    let later : b ≤ first_of n m m = first_of_grows n m (j + 1) m (omega arith) in
    let end : first_of n m m ≡ n = first_of_all n m some in
    let own : span (start_of low high m j) (start_of low high m (j + 1)) * each ≡ (b - a) * each = ap (λ c. c * each) (span_cut low a b ordered) in
    let sum : n - a ≡ (b - a) + (n - b) = omega (arith, ordered, later, end) in
    let all : (n - a) * each ≡ (b - a) * each + (n - b) * each = ap (λ c. c * each) sum ∙ add-mul (b - a) (n - b) each in
    let others = member_sites var low high m body (j + 1) k some (omega (arith, count)) in
    omega (arith, own, all, others)

-- ---- the phases of a `team`

one_phase_more : (ps : Sequences) (phase : ℕ) → phase < count_of ps → sites_before ps (suc phase) ≡ sites_before ps phase + sites_in (phase_at ps phase)
one_phase_more no_more phase small = absurd (omega arith)
one_phase_more (beside first rest) zero small = let none = none_before rest in omega (arith, none)
one_phase_more (beside first rest) (suc phase) small = let more = one_phase_more rest phase (omega arith) in omega (arith, more)

all_phases : (ps : Sequences) → sites_before ps (count_of ps) ≡ branches_sites_in ps
all_phases no_more = refl
all_phases (beside first rest) =
    let last : 1 + count_of rest ≡ suc (count_of rest) = omega arith in
    ap (sites_before (beside first rest)) last ∙ ap (λ n. sites_in first + n) (all_phases rest)

-- The numbers of the phases from this one on.
phases_range : (nested : NestedTree) (stores : ℕ → Store) (line : ℕ) (var : List ℕ) (low high members : ℤ) (phases : Sequences) (k c : ℕ) →
    0 < unsigned_abs members → k + c ≡ count_of phases →
    sites_of_phases (record nested { construct = Team line var low high members phases }) stores k c
    ≡ numbers_from (nested.site + 1 + span low high * sites_before phases k) (span low high * (branches_sites_in phases - sites_before phases k))
phases_range nested stores line var low high members phases k zero some count =
    let last : k ≡ count_of phases = omega (arith, count) in
    let end : sites_before phases k ≡ branches_sites_in phases = ap (sites_before phases) last ∙ all_phases phases in
    let left : 0 ≡ branches_sites_in phases - sites_before phases k = omega (arith, end) in
    let none : 0 ≡ span low high * 0 = omega arith in
    ap (numbers_from (nested.site + 1 + span low high * sites_before phases k)) (none ∙ ap (λ c. span low high * c) left)
phases_range nested stores line var low high members phases k (suc c) some count =
    let n = span low high in
    let m = unsigned_abs members in
    let before = sites_before phases k in
    let here = sites_in (phase_at phases k) in
    let all = branches_sites_in phases in
    let first = nested.site + 1 + n * before in
    let whole = record nested { construct = Team line var low high members phases } in
    let small : k < count_of phases = omega (arith, count) in
    let one : k + 1 ≡ suc k = omega arith in
    let next : sites_before phases (k + 1) ≡ before + here = ap (sites_before phases) one ∙ one_phase_more phases k small in
    let within : before + here ≤ all = sites_before_phase phases k small in
    let start = first_of_none n m in
    let full : n - first_of n m 0 ≡ n = omega (arith, start) in
    let own = works_range whole k (stores k) 0 first (member_trees var low high m (phase_at phases k) 0 m)
    ∙ ap (numbers_from first) (member_sites var low high m (phase_at phases k) 0 m some (omega arith) ∙ ap (λ c. c * here) full) in
    let others = phases_range nested stores line var low high members phases (k + 1) c some (omega (arith, count)) in
    let place : nested.site + 1 + n * sites_before phases (k + 1) ≡ first + n * here
    = ap (λ b. nested.site + 1 + n * b) next ∙ (let e = mul-add n before here in omega (arith, e)) in
    let left : n * (all - before) ≡ n * here + n * (all - sites_before phases (k + 1))
    = ap (λ c. n * c) (let e : all - before ≡ here + (all - sites_before phases (k + 1)) = omega (arith, next, within) in e)
    ∙ mul-add n here (all - sites_before phases (k + 1)) in
    ap (λ xs. xs ++ sites_of_phases whole stores (k + 1) c) own
    ∙ ap (λ xs. numbers_from first (n * here) ++ xs) (others ∙ ap (λ p. numbers_from p (n * (all - sites_before phases (k + 1)))) place)
    ∙ sym (joined (n * here) (n * (all - sites_before phases (k + 1))) (n * (all - before)) first left)

-- ---- the construct

some_members : (most : ℤ) (n : ℤ) → is_up_to most n ≡ true → 0 < unsigned_abs n
some_members most (pos n) h = let low = (and_parts (int_le (pos 1) (pos n)) (int_le (pos n) most) h).0 in grind (arith, nat_tests)
some_members most (negsuc n) h = absurd (false≢true h)

in_construct : (nested : NestedTree) (stores : ℕ → Store) (construct : Statement) → IsTrue (is_construct construct) → IsTrue (statement_has_right_ranges construct) →
    nested.site ∷ sites_of_phases (record nested { construct = construct }) stores 0 (phases_of construct) ≡ numbers_from nested.site (statement_sites_in construct)
in_construct nested stores (Assign line array index value) is right = absurd (false≢true is)
in_construct nested stores (For line var low high body) is right = absurd (false≢true is)
in_construct nested stores (If line cond then_block else_block) is right = absurd (false≢true is)
in_construct nested stores (Par line branches) is right =
    let whole = record nested { construct = Par line branches } in
    let place : nested.site + 1 + 0 ≡ nested.site + 1 = omega arith in
    let own = works_range whole 0 (stores 0) 0 (nested.site + 1 + 0) (branch_trees branches)
    ∙ ap (λ p. numbers_from p (works_sites (branch_trees branches))) place
    ∙ ap (numbers_from (nested.site + 1)) (branch_sites branches) in
    ap (λ xs. nested.site ∷ xs) (append-nil (sites_of_jobs (jobs_in whole 0 (stores 0))) ∙ own)
    ∙ sym (joined 1 (branches_sites_in branches) (1 + branches_sites_in branches) nested.site refl)
in_construct nested stores (Team line var low high members phases) is right =
    let n = span low high in
    let limits = (and_parts (int_le low high && is_up_to (pos 64) members) (is_up_to (pos 8) (pos (count_of phases)) && have_right_ranges phases) right).0 in
    let some = some_members (pos 64) members (and_parts (int_le low high) (is_up_to (pos 64) members) limits).1 in
    let none = none_before phases in
    let place : nested.site + 1 + n * sites_before phases 0 ≡ nested.site + 1
    = ap (λ b. nested.site + 1 + n * b) none ∙ omega arith in
    let all : branches_sites_in phases - sites_before phases 0 ≡ branches_sites_in phases = omega (arith, none) in
    let range = phases_range nested stores line var low high members phases 0 (count_of phases) some (omega arith)
    ∙ ap (λ p. numbers_from p (n * (branches_sites_in phases - sites_before phases 0))) place
    ∙ ap (λ c. numbers_from (nested.site + 1) (n * c)) all in
    ap (λ xs. nested.site ∷ xs) range
    ∙ sym (joined 1 (n * branches_sites_in phases) (1 + n * branches_sites_in phases) nested.site refl)

pub jobs_have_all : JobsHaveTheSitesInside
jobs_have_all nested stores is right = in_construct nested stores nested.construct is right
