-- Pieces touch only cells inside the arrays, so the least crossing of these cells is the least of all.
use Rattle.std.proofs.Common.{◌≡◌, ℕ, zero, suc, ◌+◌, ◌<◌, ◌≤◌, Bool, true, false, List, [], ◌∷◌, length, map, get_or, Option, Some, None, ℤ, refl, sym, ap, subst, ◌∙◌, ⊎_elim, inl, inr, arith}
use Rattle.std.specs.Prelude.{◌⊎◌, ◌↔◌, not, IsTrue, slice_get, unsigned_abs}
use Rattle.std.specs.Option.{option_map, option_or, is_some}
use Rattle.std.proofs.lemmas.Bool.{false≢true, and_parts, cases_lt}
use Rattle.array_tree.specs.declared.tree.Block.{Block}
use Rattle.array_tree.specs.declared.tree.Stmt.TheVariants as stmt
use Rattle.array_tree.specs.declared.tree.Stmt.TheFolds.{fold-roll-Stmt}
use Rattle.array_tree.specs.Trees.{statement_of, sequence_of, statement_step, block_step, blocks_step, Statement, Assign, For, If, Par, Team, Sequence, Sequences, no_more, beside, ProgramTree}
use Rattle.array_meaning.specs.Stores.{Arrays, Vars, Store, arrays_of, cells_of, length_of, AreSized}
use Rattle.array_meaning.specs.Steps.{Steps}
use Rattle.array_meaning.specs.Work.{loop, sequence_work}
use Rattle.array_meaning.specs.Touch.{Visit, walk, Covers, Touches, reads_of, changes_of}
use Rattle.array_meaning.specs.Sites.{Site, phase_rounds, sequence_sites}
use Rattle.array_meaning.specs.Names.{is_among, are_known, names_of, has_known_names, statement_has_known_names}
use Rattle.array_meaning.specs.Accepted.{is_inside, are_inside, IsAccepted}
use Rattle.array_meaning.specs.Limits.{count_of}
use Rattle.array_meaning.proofs.InsideLemmas.{names_in, names_in_of, covers_inside, sized_in_range}
use Rattle.array_meaning.proofs.KnownLemmas.{sequence_known, statement_known, touched_inside}
use Rattle.array_jobs.specs.Works.{WorkTree, branch_of, member_of, steps_of, statements_of, sites_of}
use Rattle.array_jobs.specs.Jobs.{JobTree, IsFit, names_around, program_in}
use Rattle.step_eval.specs.Nests.{NestedTree, phases_of, rounds_of, earlier_sites, numbered, jobs_in, piece_trees, AreFitJobs, IsFitNest}
use Rattle.step_eval.specs.Phases.{round_at, steps_of_job}
use Rattle.step_eval.specs.Shapes.{members_of}
use Rattle.step_eval.proofs.PhaseLemmas.{jobs_are_rounds, jobs_are_counted}
use Rattle.phase_order.specs.Crossings.{IsCrossing, HasNoCrossing, HasNoCrossings}
use Rattle.phase_order.specs.Tests.{crosses, crossing, IsTouchedBelow, IsLeastCrossing}
use Rattle.phase_order.proofs.Tests.{least_crossing}
use Rattle.site_walk.specs.Firsts.{first_of}
use Rattle.site_walk.proofs.ApartLemmas.{of_sequence}
use Rattle.site_walk.proofs.PieceLemmas.{first_none}
use Rattle.pipe_walk.specs.declared.fault.PipeFault.{PipeFault}
use Rattle.pipe_walk.specs.declared.fault.PipeFault.TheVariants.{Crossing, Memory}
use Rattle.pipe_walk.specs.FirstCrossing.{site_crossing, IsFaultOf}

-- What a piece touches lies inside the arrays.
abbrev pub IsWithin : Arrays → Steps → Type 0
IsWithin arrays piece = (cell : ℕ) → reads_of arrays piece cell ⊎ changes_of arrays piece cell → cell < cells_of arrays

-- ---- jobs

within : (arrays : Arrays) (steps : Steps) → are_known (names_in arrays) (walk arrays steps) ≡ true → are_inside arrays (walk arrays steps) ≡ true → IsWithin arrays steps
within arrays steps known inside cell t = ⊎_elim
    (λ r. touched_inside arrays false (walk arrays steps) cell known inside r)
    (λ w. touched_inside arrays true (walk arrays steps) cell known inside w)
    t

known_work : (job : JobTree) (work : WorkTree) → has_known_names (statements_of work) (names_of job.arrays) (names_around job.vars) ≡ true →
    are_known (names_in (arrays_of job.arrays)) (walk (arrays_of job.arrays) (steps_of work job.vars)) ≡ true
known_work job (branch_of body) h =
    let arrays = arrays_of job.arrays in
    ap (λ names. are_known names (walk arrays (sequence_work body job.vars))) (names_in_of job.arrays)
    ∙ sequence_known arrays (names_of job.arrays) body (names_around job.vars) job.vars h
known_work job (member_of var low high body) h =
    let arrays = arrays_of job.arrays in
    let names = names_of job.arrays in
    let around = names_around job.vars in
    ap (λ ns. are_known ns (walk arrays (loop var low high (sequence_work body) job.vars))) (names_in_of job.arrays)
    ∙ statement_known arrays names (For 0 var low high body) around job.vars
    (and_parts (statement_has_known_names (For 0 var low high body) names around) true h).0

pub fit_within : (job : JobTree) → IsFit job → IsWithin (arrays_of job.arrays) (steps_of_job job)
fit_within job fit = within (arrays_of job.arrays) (steps_of_job job) (known_work job job.work fit.known_names) fit.indices

jobs_within : (nested : NestedTree) (phase : ℕ) (store : Store) (place first : ℕ) (works : List WorkTree) → AreFitJobs (numbered nested phase store place first works) →
    (j : ℕ) (piece : Steps) → slice_get (map steps_of_job (numbered nested phase store place first works)) j ≡ Some piece → IsWithin (arrays_of nested.arrays) piece
jobs_within nested phase store place first [] fit j piece e = absurd (cc)
jobs_within nested phase store place first (w ∷ more) fit zero piece e =
    let same : steps_of w nested.vars ≡ piece = cc in
    subst (IsWithin (arrays_of nested.arrays)) same (fit_within (record {
      arrays = nested.arrays;
      site = nested.site;
      phase = phase;
      place = place;
      first = first;
      work = w;
      vars = nested.vars;
      store = store;
    }) fit.0)
jobs_within nested phase store place first (w ∷ more) fit (suc j) piece e =
    jobs_within nested phase store (place + 1) (first + sites_of w) more fit.1 j piece e

-- ---- a construct

get_round : (rounds : List (List Steps)) (k : ℕ) → get_or rounds k [] ≡ round_at rounds k
get_round [] k = refl
get_round (r ∷ rs) zero = refl
get_round (r ∷ rs) (suc k) = get_round rs k

no_round : (rounds : List (List Steps)) (k : ℕ) → length rounds ≤ k → round_at rounds k ≡ []
no_round [] k h = refl
no_round (r ∷ rs) zero h = absurd (omega arith)
no_round (r ∷ rs) (suc k) h = no_round rs k (omega arith)

count_rounds : (phases : Sequences) (var : List ℕ) (low high : ℤ) (m : ℕ) (vars : Vars) → length (phase_rounds phases var low high m vars) ≡ count_of phases
count_rounds no_more var low high m vars = refl
count_rounds (beside first rest) var low high m vars = let more = count_rounds rest var low high m vars in omega (arith, more)

pub rounds_counted : (construct : Statement) (vars : Vars) → length (rounds_of construct vars) ≡ phases_of construct
rounds_counted (Assign line array index value) vars = refl
rounds_counted (For line var low high body) vars = refl
rounds_counted (If line cond then_block else_block) vars = refl
rounds_counted (Par line branches) vars = refl
rounds_counted (Team line var low high members phases) vars = count_rounds phases var low high (unsigned_abs members) vars

pub nest_within : (nested : NestedTree) → IsFitNest nested →
    IsTouchedBelow (arrays_of nested.arrays) (cells_of (arrays_of nested.arrays)) (rounds_of nested.construct nested.vars)
nest_within nested fit j k piece cell at t = ⊎_elim
    (λ less.
    jobs_within nested k nested.store 0 (nested.site + 1 + earlier_sites nested.construct k) (piece_trees nested.construct k) (fit.jobs k less) j piece
    (ap (λ ps. slice_get ps j) (jobs_are_rounds nested k nested.store less ∙ sym (get_round rounds k)) ∙ at) cell t)
    (λ above.
    let none : round_at rounds k ≡ [] = no_round rounds k (let n = rounds_counted nested.construct nested.vars in omega (arith, n, above)) in
    let nothing : slice_get [] j ≡ Some piece = sym (ap (λ ps. slice_get ps j) (get_round rounds k ∙ none)) ∙ at in
    absurd (cc))
    (cases_lt k (phases_of nested.construct))
  where
    rounds : List (List Steps)
    rounds = rounds_of nested.construct nested.vars

-- The arrays of a construct are within their limits.
first_fit : (jobs : List JobTree) → AreFitJobs jobs → 0 < length jobs → (job : JobTree) × (slice_get jobs 0 ≡ Some job) × IsFit job
first_fit [] fit some = absurd (omega arith)
first_fit (job ∷ jobs) fit some = (job, refl, fit.0)

numbered_arrays : (nested : NestedTree) (phase : ℕ) (store : Store) (place first : ℕ) (works : List WorkTree) (job : JobTree) →
    slice_get (numbered nested phase store place first works) 0 ≡ Some job → job.arrays ≡ nested.arrays
numbered_arrays nested phase store place first [] job e = absurd (cc)
numbered_arrays nested phase store place first (w ∷ works) job e =
    let made : JobTree = record {
      arrays = nested.arrays;
      site = nested.site;
      phase = phase;
      place = place;
      first = first;
      work = w;
      vars = nested.vars;
      store = store;
    } in
    let same : made ≡ job = cc in
    sym (ap (λ (x : JobTree). x.arrays) same)

pub nest_sized : (nested : NestedTree) → IsFitNest nested → 0 < phases_of nested.construct → 0 < members_of nested.construct → AreSized (arrays_of nested.arrays)
nest_sized nested fit phases members =
    let counted = jobs_are_counted nested 0 nested.store phases in
    let one = first_fit (jobs_in nested 0 nested.store) (fit.jobs 0 phases) (omega (arith, counted, members)) in
    let arrays = numbered_arrays nested 0 nested.store 0 (nested.site + 1 + earlier_sites nested.construct 0) (piece_trees nested.construct 0) one.0 one.1 in
    subst (λ ds. AreSized (arrays_of ds)) arrays (sized_in_range (program_in one.0) one.2.ranges)

-- ---- what the least crossing shows

pub clear_noted : (arrays : Arrays) (rounds : List (List Steps)) → IsTouchedBelow arrays (cells_of arrays) rounds → (found : Option ℕ) →
    found ≡ crossing arrays (cells_of arrays) rounds → IsLeastCrossing arrays rounds found
clear_noted arrays rounds below found e = subst (IsLeastCrossing arrays rounds) (sym e) (least_crossing arrays (cells_of arrays) rounds below)

pub none_noted : (arrays : Arrays) (rounds : List (List Steps)) (found : Option ℕ) (clear : Bool) → is_some found ≡ not clear → IsLeastCrossing arrays rounds found →
    (IsTrue clear) ↔ HasNoCrossing arrays rounds
none_noted arrays rounds None true e h = (λ t. h, λ k. refl)
none_noted arrays rounds None false e h = absurd (false≢true e)
none_noted arrays rounds (Some cell) true e h = absurd (false≢true (sym e))
none_noted arrays rounds (Some cell) false e h = (λ t. absurd (false≢true t), λ k. absurd (k cell h.0))

-- Pieces of one phase don't cross.
pub few_rounds : (arrays : Arrays) (construct : Statement) (vars : Vars) → phases_of construct ≤ 1 →
    crossing arrays (cells_of arrays) (rounds_of construct vars) ≡ None
few_rounds arrays construct vars few = cases (rounds_of construct vars) (let n = rounds_counted construct vars in omega (arith, n))
  where
    cases : (rounds : List (List Steps)) → length rounds ≤ 1 → crossing arrays (cells_of arrays) rounds ≡ None
    cases [] h = first_none (λ cell. crosses arrays cell 0 0 []) 0 (cells_of arrays) (λ c small. refl)
    cases (round ∷ []) h = first_none (λ cell. crosses arrays cell 0 0 (round ∷ [])) 0 (cells_of arrays) (λ c small. refl)
    cases (round ∷ other ∷ more) h = absurd (omega arith)

-- ---- the sites of a program

-- What a visit touches lies inside the arrays.
abbrev IsVisitWithin : Arrays → Visit → Type 0
IsVisitWithin arrays v = (cell : ℕ) → Covers arrays v.array v.index cell → cell < cells_of arrays

abbrev EachVisit : Arrays → List Visit → Type 0
EachVisit arrays [] = Unit {0}
EachVisit arrays (v ∷ more) = IsVisitWithin arrays v × EachVisit arrays more

abbrev EachPiece : Arrays → List Steps → Type 0
EachPiece arrays [] = Unit {0}
EachPiece arrays (p ∷ more) = EachVisit arrays (walk arrays p) × EachPiece arrays more

abbrev EachRound : Arrays → List (List Steps) → Type 0
EachRound arrays [] = Unit {0}
EachRound arrays (r ∷ more) = EachPiece arrays r × EachRound arrays more

abbrev EachSite : Arrays → List Site → Type 0
EachSite arrays [] = Unit {0}
EachSite arrays (s ∷ more) = EachRound arrays s.rounds × EachSite arrays more

visits_within : (arrays : Arrays) (vs : List Visit) → are_known (names_in arrays) vs ≡ true → are_inside arrays vs ≡ true → EachVisit arrays vs
visits_within arrays [] known inside = tt
visits_within arrays (v ∷ vs) known inside =
    let named = and_parts (is_among v.array (names_in arrays)) (are_known (names_in arrays) vs) known in
    let parts = and_parts (is_inside (length_of arrays v.array) v.index) (are_inside arrays vs) inside in
    ((λ cell h. covers_inside arrays v.array v.index cell named.0 parts.0 h), visits_within arrays vs named.1 parts.1)

touch_within : (arrays : Arrays) (w : Bool) (vs : List Visit) (cell : ℕ) → EachVisit arrays vs → Touches arrays w vs cell → cell < cells_of arrays
touch_within arrays w [] cell h t = absurd t
touch_within arrays w (v ∷ vs) cell h (inl t) = h.0 cell t.1
touch_within arrays w (v ∷ vs) cell h (inr t) = touch_within arrays w vs cell h.1 t

piece_within : (arrays : Arrays) (round : List Steps) (j : ℕ) (piece : Steps) → EachPiece arrays round → slice_get round j ≡ Some piece → IsWithin arrays piece
piece_within arrays [] j piece h e = absurd (cc)
piece_within arrays (p ∷ ps) zero piece h e =
    let same : p ≡ piece = cc in
    subst (IsWithin arrays) same (λ cell t. ⊎_elim (λ r. touch_within arrays false (walk arrays p) cell h.0 r) (λ w. touch_within arrays true (walk arrays p) cell h.0 w) t)
piece_within arrays (p ∷ ps) (suc j) piece h e = piece_within arrays ps j piece h.1 e

rounds_within : (arrays : Arrays) (rounds : List (List Steps)) → EachRound arrays rounds → IsTouchedBelow arrays (cells_of arrays) rounds
rounds_within arrays [] h j k piece cell at t = absurd (cc)
rounds_within arrays (r ∷ rs) h j zero piece cell at t = piece_within arrays r j piece h.0 at cell t
rounds_within arrays (r ∷ rs) h j (suc k) piece cell at t = rounds_within arrays rs h.1 j k piece cell at t

-- The first site with a crossing is on this line, and the cell is the least of its crossings.
record IsFirst (arrays : Arrays) (sites : List Site) (line cell : ℕ) : Type 0 where
  pub number : ℕ
  pub site : Site
  pub here : slice_get sites number ≡ Some site
  pub noted : line ≡ site.line
  pub crosses : IsCrossing arrays site.rounds cell
  pub least : (c : ℕ) → c < cell → ¬ IsCrossing arrays site.rounds c
  pub earlier : (i : ℕ) (s : Site) → i < number → slice_get sites i ≡ Some s → HasNoCrossing arrays s.rounds

-- The result for these sites.
abbrev IsNoted : Arrays → List Site → Option PipeFault → Type 0
IsNoted arrays sites None = (i : ℕ) (s : Site) → slice_get sites i ≡ Some s → HasNoCrossing arrays s.rounds
IsNoted arrays sites (Some (Crossing line cell)) = IsFirst arrays sites line cell
IsNoted arrays sites (Some Memory) = ⊥

next_none : (arrays : Arrays) (site : Site) (more : List Site) → HasNoCrossing arrays site.rounds →
    ((i : ℕ) (s : Site) → slice_get more i ≡ Some s → HasNoCrossing arrays s.rounds) →
    (i : ℕ) (s : Site) → slice_get (site ∷ more) i ≡ Some s → HasNoCrossing arrays s.rounds
next_none arrays site more clear h zero s e = let same : site ≡ s = cc in subst (λ (x : Site). HasNoCrossing arrays x.rounds) same clear
next_none arrays site more clear h (suc i) s e = h i s e

next_noted : (arrays : Arrays) (site : Site) (more : List Site) → HasNoCrossing arrays site.rounds → (fault : Option PipeFault) →
    IsNoted arrays more fault → IsNoted arrays (site ∷ more) fault
next_noted arrays site more clear None h = next_none arrays site more clear h
next_noted arrays site more clear (Some (Crossing line cell)) h = record {
  number = suc h.number;
  site = h.site;
  here = h.here;
  noted = h.noted;
  crosses = h.crosses;
  least = h.least;
  earlier = λ i s less e. before i s less e;
}
  where
    before : (i : ℕ) (s : Site) → i < suc h.number → slice_get (site ∷ more) i ≡ Some s → HasNoCrossing arrays s.rounds
    before zero s less e = let same : site ≡ s = cc in subst (λ (x : Site). HasNoCrossing arrays x.rounds) same clear
    before (suc i) s less e = h.earlier i s (omega arith) e
next_noted arrays site more clear (Some Memory) h = h

sites_noted : (arrays : Arrays) (sites : List Site) → EachSite arrays sites → IsNoted arrays sites (first_of (site_crossing arrays) sites)
sites_noted arrays [] h = λ i s e. absurd (cc)
sites_noted arrays (site ∷ more) h =
    cases (crossing arrays (cells_of arrays) site.rounds) (least_crossing arrays (cells_of arrays) site.rounds (rounds_within arrays site.rounds h.0)) (sites_noted arrays more h.1)
  where
    cases : (found : Option ℕ) → IsLeastCrossing arrays site.rounds found → IsNoted arrays more (first_of (site_crossing arrays) more) →
        IsNoted arrays (site ∷ more) (option_or (option_map (Crossing site.line) found) (first_of (site_crossing arrays) more))
    cases None clear rest = next_noted arrays site more clear (first_of (site_crossing arrays) more) rest
    cases (Some cell) least rest = record {
      number = 0;
      site = site;
      here = refl;
      noted = refl;
      crosses = least.0;
      least = least.1;
      earlier = λ i s less e. absurd (omega arith);
    }

-- The first crossing of an accepted program.
program_noted : (program : ProgramTree) → IsAccepted program →
    IsNoted (arrays_of program.arrays) (sequence_sites program.body []) (first_of (site_crossing (arrays_of program.arrays)) (sequence_sites program.body []))
program_noted program accepted =
    let arrays = arrays_of program.arrays in
    let visits = walk arrays (sequence_work program.body []) in
    let named : are_known (names_in arrays) visits ≡ true =
    ap (λ names. are_known names visits) (names_in_of program.arrays) ∙ sequence_known arrays (names_of program.arrays) program.body [] [] accepted.known_names in
    sites_noted arrays (sequence_sites program.body []) (of_sequence arrays (IsVisitWithin arrays) program.body [] (visits_within arrays visits named accepted.indices))

pub none_crosses : (program : ProgramTree) → IsAccepted program → first_of (site_crossing (arrays_of program.arrays)) (sequence_sites program.body []) ≡ None → HasNoCrossings program
none_crosses program accepted e =
    subst (IsNoted (arrays_of program.arrays) (sequence_sites program.body [])) e (program_noted program accepted)

pub fault_noted : (program : ProgramTree) → IsAccepted program → (fault : PipeFault) →
    first_of (site_crossing (arrays_of program.arrays)) (sequence_sites program.body []) ≡ Some fault → IsFaultOf program fault
fault_noted program accepted fault e =
    cases fault (subst (IsNoted (arrays_of program.arrays) (sequence_sites program.body [])) e (program_noted program accepted))
  where
    cases : (fault : PipeFault) → IsNoted (arrays_of program.arrays) (sequence_sites program.body []) (Some fault) → IsFaultOf program fault
    cases (Crossing line cell) h = record {
      number = h.number;
      site = h.site;
      here = h.here;
      reported = h.noted;
      crosses = h.crosses;
      least = h.least;
      earlier = h.earlier;
    }
    cases Memory h = tt

-- The arrays of an accepted program are within their limits.
pub accepted_sized : (program : ProgramTree) → IsAccepted program → AreSized (arrays_of program.arrays)
accepted_sized program accepted = sized_in_range program accepted.ranges

-- The loop that a `for` of the tree stands for.
pub for_view : (line : ℕ) (var : List ℕ) (low high : ℤ) (body : Block) →
    statement_of (stmt.For line var low high body) ≡ For line var low high (sequence_of body)
for_view line var low high body =
    ap statement_of (sym (stmt.rolls-For line var low high body))
    ∙ fold-roll-Stmt Statement Sequence Sequences statement_step block_step blocks_step _
