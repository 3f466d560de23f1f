-- The next construct may be handed out: its pieces are fit jobs in each phase.
use Rattle.std.proofs.Common.{◌≡◌, ℕ, zero, suc, ◌+◌, ◌-◌, ◌*◌, ◌<◌, ◌≤◌, true, List, ℤ, pos, negsuc, refl, ap, ◌∙◌, length, arith}
use Rattle.std.specs.Prelude.{IsTrue, int_le, unsigned_abs}
use Rattle.std.proofs.lemmas.Bool.{false≢true, and_parts}
use Rattle.std.proofs.lemmas.Bool.Decides.{nat_tests}
use Rattle.std.proofs.Math.Nat.{add-mul, mul-add, mul-le-mul_left}
use Rattle.array_tree.specs.Trees.{Statement, Assign, For, If, Par, Team, Sequence, followed, Sequences, no_more, beside}
use Rattle.array_meaning.specs.Stores.{Vars, Store}
use Rattle.array_meaning.specs.Work.{span}
use Rattle.array_meaning.specs.Members.{first_of, start_of}
use Rattle.array_meaning.specs.Plans.{sites_in, branches_sites_in}
use Rattle.array_meaning.specs.Limits.{is_up_to, count_of, statement_has_right_ranges}
use Rattle.array_jobs.specs.Works.{branch_of, member_of, sites_of}
use Rattle.array_jobs.specs.Jobs.{JobTree, IsFit}
use Rattle.step_eval.specs.Rest.{WorkAt, at, instead}
use Rattle.step_eval.specs.Nests.{NestedTree, branch_trees, member_trees, phase_at, sites_before, numbered, jobs_in, AreFitJobs, is_construct, IsFitNest}
use Rattle.array_meaning.proofs.MemberLemmas.{span_cut}
use Rattle.step_eval.proofs.FitParts.{WorkParts, parts_of, refit, sequence_parts}
use Rattle.step_eval.proofs.NestParts.{AreFitBranches, par_parts, branch_parts, AreFitPhases, team_parts, LoopParts, phase_loop, first_of_grows, first_of_none, first_of_all, member_loop}

-- ---- the pieces of a construct

-- The construct that is handed out.
abbrev pub handed : JobTree → ℕ → Statement → Vars → Store → NestedTree
handed job next construct vars store = record { arrays = job.arrays; site = next; construct = construct; vars = vars; store = store }

-- The job of a piece, with the arrays of the construct's own job.
abbrev pub piece_job : JobTree → (site phase place first : ℕ) → WorkAt → Store → JobTree
piece_job job site phase place first w store = record {
  arrays = job.arrays;
  site = site;
  phase = phase;
  place = place;
  first = first;
  work = w.work;
  vars = w.vars;
  store = store;
}

-- The job of a piece is fit if the piece has its parts and its numbers are within the limits.
pub fit_piece : (job : JobTree) (before : ℕ) (old : WorkAt) (site phase place first : ℕ) (new : WorkAt) (store : Store) →
    IsFit (instead job before old) → length store ≡ length job.store → WorkParts job new → phase < 8 → place < 64 → first + sites_of new.work ≤ 4096 →
    IsFit (piece_job job site phase place first new store)
fit_piece job before old site phase place first new store fit same parts few_phases few_places room =
    let there = refit job before old first new fit parts room in
    record {
      single_names = there.single_names;
      new_variables = there.new_variables;
      known_names = there.known_names;
      ranges = there.ranges;
      indices = there.indices;
      apart = there.apart;
      cells = same ∙ fit.cells;
      phases = few_phases;
      places = few_places;
      sites = room;
    }

-- The jobs of fit branches are fit.
fit_branches : (job : JobTree) (before : ℕ) (old : WorkAt) (next : ℕ) (construct : Statement) (vars : Vars) (store : Store) (phase place first : ℕ)
    (bs : Sequences) → IsFit (instead job before old) → length store ≡ length job.store → phase < 8 → AreFitBranches job.arrays vars bs →
    place + count_of bs ≤ 64 → first + branches_sites_in bs ≤ 4096 →
    AreFitJobs (numbered (handed job next construct vars store) phase store place first (branch_trees bs))
fit_branches job before old next construct vars store phase place first no_more fit same few parts places room = tt
fit_branches job before old next construct vars store phase place first (beside branch rest) fit same few parts places room =
    let both_parts = branch_parts job.arrays vars branch rest parts in (
      fit_piece job before old next phase place first (at (branch_of branch) vars) store fit same both_parts.0 few (omega arith) (omega arith),
      fit_branches job before old next construct vars store phase (place + 1) (first + sites_in branch) rest fit same few both_parts.1
          (omega arith) (omega arith),
    )

-- The jobs of the members of a fit loop are fit, from member j on. The sites of these members have room.
fit_members : (job : JobTree) (before : ℕ) (old : WorkAt) (next : ℕ) (construct : Statement) (vars : Vars) (store : Store) (phase place first : ℕ)
    (var : List ℕ) (low high : ℤ) (m : ℕ) (body : Sequence) (j k : ℕ) →
    IsFit (instead job before old) → length store ≡ length job.store → phase < 8 → LoopParts job.arrays vars var low high body → j + k ≡ m →
    place + k ≤ 64 → first + (span low high - first_of (span low high) m j) * sites_in body ≤ 4096 →
    AreFitJobs (numbered (handed job next construct vars store) phase store place first (member_trees var low high m body j k))
fit_members job before old next construct vars store phase place first var low high m body j zero fit same few parts count places room = tt
fit_members job before old next construct vars store phase place first var low high m body j (suc k) fit same few parts count places room =
    let n = span low high in
    let each = sites_in body in
    let a = first_of n m j in
    let b = first_of n m (j + 1) in
    let ordered : a ≤ b = first_of_grows n m j (j + 1) (omega arith) in
    let later : b ≤ first_of n m m = first_of_grows n m (j + 1) m (omega arith) in
    let end : first_of n m m ≡ n = first_of_all n m (omega arith) in
    let own : span (start_of low high m j) (start_of low high m (j + 1)) * each ≡ (b - a) * each = ap (λ c. c * each) (span_cut low a b ordered) in
    let all : (n - a) * each ≡ (b - a) * each + (n - b) * each
    = ap (λ c. c * each) (let sum : n - a ≡ (b - a) + (n - b) = omega (arith, ordered, later, end) in sum) ∙ add-mul (b - a) (n - b) each in
    let here : first + span (start_of low high m j) (start_of low high m (j + 1)) * each ≤ 4096 = omega (arith, room, own, all) in
    let there : first + span (start_of low high m j) (start_of low high m (j + 1)) * each + (n - b) * each ≤ 4096 = omega (arith, room, own, all) in
    let member = member_of var (start_of low high m j) (start_of low high m (j + 1)) body in (
      fit_piece job before old next phase place first (at member vars) store fit same (member_loop job.arrays vars var low high body m j (omega arith) parts)
          few (omega arith) here,
      fit_members job before old next construct vars store phase (place + 1) (first + sites_of member) var low high m body (j + 1) k
          fit same few parts (omega arith) (omega arith) there,
    )

-- The sites of a phase's body and of the bodies before it are at most those of all bodies.
pub sites_before_phase : (ps : Sequences) (phase : ℕ) → phase < count_of ps → sites_before ps phase + sites_in (phase_at ps phase) ≤ branches_sites_in ps
sites_before_phase no_more phase small = absurd (omega arith)
sites_before_phase (beside first rest) zero small = omega arith
sites_before_phase (beside first rest) (suc phase) small = let more = sites_before_phase rest phase (omega arith) in omega (arith, more)

-- ---- the construct

-- A number that passes the test is at most the test's limit.
pub up_to_number : (most : ℕ) (n : ℤ) → is_up_to (pos most) n ≡ true → unsigned_abs n ≤ most
up_to_number most (pos n) h = let high = (and_parts (int_le (pos 1) (pos n)) (int_le (pos n) (pos most)) h).1 in grind (arith, nat_tests)
up_to_number most (negsuc n) h = absurd (false≢true h)

-- A construct that is the first statement of a fit work may be handed out.
pub fit_nest : (job : JobTree) (next : ℕ) (construct : Statement) (rest : Sequence) (vars : Vars) (store : Store) → IsTrue (is_construct construct) →
    IsFit (instead job next (at (branch_of (followed construct rest)) vars)) → length store ≡ length job.store →
    IsFitNest (record { arrays = job.arrays; site = next; construct = construct; vars = vars; store = store })
fit_nest job next (Assign line array index value) rest vars store is fit same = absurd (false≢true is)
fit_nest job next (For line var low high body) rest vars store is fit same = absurd (false≢true is)
fit_nest job next (If line cond then_block else_block) rest vars store is fit same = absurd (false≢true is)
fit_nest job next (Par line branches) rest vars store is fit same =
    let construct = Par line branches in
    let old = at (branch_of (followed construct rest)) vars in
    let parts = (sequence_parts job.arrays vars construct rest (parts_of job next old fit)).0 in
    let inner = par_parts job.arrays vars line branches parts in
    let few = up_to_number 64 (pos (count_of branches)) inner.1 in
    let room = fit.sites in
    record {
      construct = refl;
      limits = (and_parts (statement_has_right_ranges construct) true parts.ranges).0;
      apart = parts.apart.0;
      jobs = λ phase small. fit_branches job next old next construct vars store phase 0 (next + 1 + 0) branches fit same (omega arith) inner.0
          (omega (arith, few)) (omega (arith, room));
    }
fit_nest job next (Team line var low high members phases) rest vars store is fit same =
    let construct = Team line var low high members phases in
    let old = at (branch_of (followed construct rest)) vars in
    let parts = (sequence_parts job.arrays vars construct rest (parts_of job next old fit)).0 in
    let inner = team_parts job.arrays vars line var low high members phases parts in
    record {
      construct = refl;
      limits = (and_parts (statement_has_right_ranges construct) true parts.ranges).0;
      apart = parts.apart.0;
      jobs = jobs inner.0 (up_to_number 64 members inner.1) (up_to_number 8 (pos (count_of phases)) inner.2);
    }
  where
    n : ℕ
    n = span low high

    m : ℕ
    m = unsigned_abs members

    jobs : AreFitPhases job.arrays vars var low high phases → m ≤ 64 → count_of phases ≤ 8 → (phase : ℕ) → phase < count_of phases →
        AreFitJobs (jobs_in (handed job next (Team line var low high members phases) vars store) phase store)
    jobs parts few_members few_phases phase small =
        let construct = Team line var low high members phases in
        let old = at (branch_of (followed construct rest)) vars in
        let body = phase_at phases phase in
        let earlier = sites_before phases phase in
        let room = fit.sites in
        let inside = mul-le-mul_left n (sites_before_phase phases phase small) in
        let sum = mul-add n earlier (sites_in body) in
        let start = first_of_none n m in
        let left : (n - first_of n m 0) * sites_in body ≡ n * sites_in body
        = ap (λ c. c * sites_in body) (let all : n - first_of n m 0 ≡ n = omega (arith, start) in all) in
        fit_members job next old next construct vars store phase 0 (next + 1 + n * earlier) var low high m body 0 m fit same (omega arith)
        (phase_loop job.arrays vars var low high phases phase small parts) (omega arith) (omega (arith, few_members)) (omega (arith, room, inside, sum, left))
