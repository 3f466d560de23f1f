-- The phases of a construct, and the jobs of their pieces.
use Rattle.std.proofs.Common.{◌≡◌, ℕ, zero, suc, ◌+◌, ◌<◌, ◌≤◌, List, [], ◌∷◌, ◌++◌, map, length, Option, Some, ℤ, pos, true, refl, sym, ap, ◌∙◌, subst, inl, inr, arith}
use Rattle.std.specs.Prelude.{◌&&◌, slice_get, unwrap_or, unsigned_abs, int_le}
use Rattle.std.proofs.lemmas.Bool.{and_parts}
use Rattle.std.proofs.lemmas.Option.{same_Some}
use Rattle.array_tree.specs.Trees.{Statement, Assign, For, If, Par, Team, Sequence, Sequences, no_more, beside, Declaration}
use Rattle.array_meaning.specs.Stores.{Arrays, Vars, Store, HaveCells, arrays_of, after}
use Rattle.array_meaning.specs.Steps.{Steps, Done, followed_by, join, writes_of}
use Rattle.array_meaning.specs.Work.{loop, sequence_work, statement_work, branches_work, phases_work}
use Rattle.array_meaning.specs.Members.{start_of, member_works, team_works}
use Rattle.array_meaning.specs.Sites.{branch_works, phase_rounds, AreRoundsApart}
use Rattle.array_meaning.specs.Touch.{IsApart}
use Rattle.array_meaning.specs.Limits.{is_up_to, count_of, have_right_ranges, statement_has_right_ranges}
use Rattle.array_meaning.specs.Pieces.{lays, last_writes, merged, piece_of, IsMember, HaveSameMembers}
use Rattle.array_meaning.proofs.CellLemmas.{some_cell}
use Rattle.array_meaning.proofs.StepLemmas.{followed_by_done, followed_by_assoc, after_append, writes_followed_by}
use Rattle.array_meaning.proofs.LastLemmas.{lays_append, rising_lays}
use Rattle.array_meaning.proofs.MergeLemmas.{lays_last, after_last}
use Rattle.array_meaning.proofs.MemberLemmas.{members_loop}
use Rattle.array_meaning.proofs.OrderLemmas.{members_map, any_order}
use Rattle.array_jobs.specs.Works.{WorkTree, sites_of, steps_of}
use Rattle.array_jobs.specs.Jobs.{JobTree}
use Rattle.array_jobs.specs.Groups.{IsGroup, HaveSameJobs}
use Rattle.array_jobs.specs.PieceParts.{piece_of_job}
use Rattle.array_jobs.proofs.FitLemmas.{sized}
use Rattle.step_eval.specs.Nests.{NestedTree, phases_of, rounds_of, branch_trees, member_trees, phase_at, piece_trees, earlier_sites, numbered, jobs_in, AreFitJobs, IsFitNest}
use Rattle.step_eval.specs.Phases.{round_at, round_of, phase_writes, store_before, writes_before, steps_of_job, IsWhole}
use Rattle.step_eval.specs.Shapes.{members_of}
use Rattle.step_eval.proofs.ShapeLemmas.{some_phases}
use Rattle.step_eval.proofs.PieceLemmas.{count_trees, some_members, some_piece}

-- ---- a job of a phase names its phase and its index, and starts from the phase's store

pub record IsNumbered (nested : NestedTree) (phase : ℕ) (store : Store) (place : ℕ) (job : JobTree) : Type 0 where
  pub its_arrays : job.arrays ≡ nested.arrays
  pub its_store : job.store ≡ store
  pub its_phase : job.phase ≡ phase
  pub its_place : job.place ≡ place

numbered_at : (nested : NestedTree) (phase : ℕ) (store : Store) (place first : ℕ) (works : List WorkTree) (i : ℕ) (job : JobTree) →
    slice_get (numbered nested phase store place first works) i ≡ Some job → IsNumbered nested phase store (place + i) job
numbered_at nested phase store place first [] i job e = absurd (cc)
numbered_at nested phase store place first (work ∷ works) zero job e =
    let same = same_Some _ job e in
    let here : place ≡ place + 0 = omega arith in
    record {
      its_arrays = ap (λ (j : JobTree). j.arrays) (sym same);
      its_store = ap (λ (j : JobTree). j.store) (sym same);
      its_phase = ap (λ (j : JobTree). j.phase) (sym same);
      its_place = ap (λ (j : JobTree). j.place) (sym same) ∙ here;
    }
numbered_at nested phase store place first (work ∷ works) (suc i) job e =
    let rest = numbered_at nested phase store (place + 1) (first + sites_of work) works i job e in
    let next : place + 1 + i ≡ place + suc i = omega arith in
    record { its_arrays = rest.its_arrays; its_store = rest.its_store; its_phase = rest.its_phase; its_place = rest.its_place ∙ next }

pub job_parts : (nested : NestedTree) (phase : ℕ) (store : Store) (j : ℕ) (job : JobTree) → slice_get (jobs_in nested phase store) j ≡ Some job →
    IsNumbered nested phase store j job
job_parts nested phase store j job e =
    let found = numbered_at nested phase store 0 (nested.site + 1 + earlier_sites nested.construct phase) (piece_trees nested.construct phase) j job e in
    let here : 0 + j ≡ j = omega arith in
    record { its_arrays = found.its_arrays; its_store = found.its_store; its_phase = found.its_phase; its_place = found.its_place ∙ here }

-- ---- the jobs of a phase have the effect of its pieces

numbered_steps : (nested : NestedTree) (phase : ℕ) (store : Store) (place first : ℕ) (works : List WorkTree) →
    map steps_of_job (numbered nested phase store place first works) ≡ map (λ w. steps_of w nested.vars) works
numbered_steps nested phase store place first [] = refl
numbered_steps nested phase store place first (work ∷ works) =
    ap (λ l. steps_of work nested.vars ∷ l) (numbered_steps nested phase store (place + 1) (first + sites_of work) works)

branch_steps : (bs : Sequences) (vars : Vars) → map (λ w. steps_of w vars) (branch_trees bs) ≡ branch_works bs vars
branch_steps no_more vars = refl
branch_steps (beside first rest) vars = ap (λ l. sequence_work first vars ∷ l) (branch_steps rest vars)

member_steps : (var : List ℕ) (low high : ℤ) (m : ℕ) (body : Sequence) (j k : ℕ) (vars : Vars) →
    map (λ w. steps_of w vars) (member_trees var low high m body j k) ≡ member_works var low high m (sequence_work body) j k vars
member_steps var low high m body j zero vars = refl
member_steps var low high m body j (suc k) vars =
    ap (λ l. loop var (start_of low high m j) (start_of low high m (j + 1)) (sequence_work body) vars ∷ l)
    (member_steps var low high m body (j + 1) k vars)

phase_round : (ps : Sequences) (var : List ℕ) (low high : ℤ) (m : ℕ) (vars : Vars) (phase : ℕ) → phase < count_of ps →
    team_works var low high m (sequence_work (phase_at ps phase)) vars ≡ round_at (phase_rounds ps var low high m vars) phase
phase_round no_more var low high m vars phase h = absurd (omega arith)
phase_round (beside first rest) var low high m vars zero h = refl
phase_round (beside first rest) var low high m vars (suc phase) h = phase_round rest var low high m vars phase (omega arith)

piece_steps : (construct : Statement) (vars : Vars) (phase : ℕ) → phase < phases_of construct →
    map (λ w. steps_of w vars) (piece_trees construct phase) ≡ round_at (rounds_of construct vars) phase
piece_steps (Assign line array index value) vars phase h = absurd (omega arith)
piece_steps (For line var low high body) vars phase h = absurd (omega arith)
piece_steps (If line cond then_block else_block) vars phase h = absurd (omega arith)
piece_steps (Par line branches) vars zero h = branch_steps branches vars
piece_steps (Par line branches) vars (suc phase) h = absurd (omega arith)
piece_steps (Team line var low high members phases) vars phase h =
    member_steps var low high (unsigned_abs members) (phase_at phases phase) 0 (unsigned_abs members) vars
    ∙ phase_round phases var low high (unsigned_abs members) vars phase h

-- The jobs of a phase have the effect of its pieces.
pub jobs_are_rounds : (nested : NestedTree) (phase : ℕ) (store : Store) → phase < phases_of nested.construct →
    map steps_of_job (jobs_in nested phase store) ≡ round_of nested phase
jobs_are_rounds nested phase store h =
    numbered_steps nested phase store 0 _ (piece_trees nested.construct phase) ∙ piece_steps nested.construct nested.vars phase h

-- ---- phase after phase

-- The steps of the first rounds.
abbrev steps_to : List (List Steps) → ℕ → Steps
steps_to rounds zero = Done
steps_to rounds (suc n) = followed_by (steps_to rounds n) (join (round_at rounds n))

-- One more round in front.
steps_after : (round : List Steps) (rounds : List (List Steps)) (n : ℕ) → steps_to (round ∷ rounds) (suc n) ≡ followed_by (join round) (steps_to rounds n)
steps_after round rounds zero = sym (followed_by_done (join round))
steps_after round rounds (suc n) =
    ap (λ s. followed_by s (join (round_at rounds n))) (steps_after round rounds n)
    ∙ followed_by_assoc (join round) (steps_to rounds n) (join (round_at rounds n))

join_branches : (bs : Sequences) (vars : Vars) → join (branch_works bs vars) ≡ branches_work bs vars
join_branches no_more vars = refl
join_branches (beside first rest) vars = ap (followed_by (sequence_work first vars)) (join_branches rest vars)

join_phases : (ps : Sequences) (var : List ℕ) (low high : ℤ) (m : ℕ) (vars : Vars) → 0 < m →
    steps_to (phase_rounds ps var low high m vars) (count_of ps) ≡ phases_work ps var low high vars
join_phases no_more var low high m vars some = refl
join_phases (beside first rest) var low high m vars some =
    ap (steps_to (phase_rounds (beside first rest) var low high m vars)) (let next : count_of (beside first rest) ≡ suc (count_of rest) = omega arith in next)
    ∙ steps_after (team_works var low high m (sequence_work first) vars) (phase_rounds rest var low high m vars) (count_of rest)
    ∙ ap (λ s. followed_by s (steps_to (phase_rounds rest var low high m vars) (count_of rest))) (members_loop var low high m (sequence_work first) vars some)
    ∙ ap (followed_by (loop var low high (sequence_work first) vars)) (join_phases rest var low high m vars some)

-- All rounds are the construct.
all_rounds : (construct : Statement) (vars : Vars) → statement_has_right_ranges construct ≡ true → 0 < phases_of construct →
    steps_to (rounds_of construct vars) (phases_of construct) ≡ statement_work construct vars
all_rounds (Assign line array index value) vars e h = absurd (omega arith)
all_rounds (For line var low high body) vars e h = absurd (omega arith)
all_rounds (If line cond then_block else_block) vars e h = absurd (omega arith)
all_rounds (Par line branches) vars e h = join_branches branches vars
all_rounds (Team line var low high members phases) vars e h =
    let parts = and_parts (int_le low high && is_up_to (pos 64) members) (is_up_to (pos 8) (pos (count_of phases)) && have_right_ranges phases) e in
    let some = some_members members (and_parts (int_le low high) (is_up_to (pos 64) members) parts.0).1 in
    join_phases phases var low high (unsigned_abs members) vars some

-- The first n phases write what their steps write.
pub record IsPart (nested : NestedTree) (n : ℕ) : Type 0 where
  pub writes : writes_before nested n ≡ piece_of (arrays_of nested.arrays) (steps_to (rounds_of nested.construct nested.vars) n) nested.store
  pub store : store_before nested n ≡ after (writes_of (arrays_of nested.arrays) (steps_to (rounds_of nested.construct nested.vars) n) nested.store) nested.store

part : (nested : NestedTree) (n : ℕ) → IsPart nested n
part nested zero = record { writes = refl; store = refl }
part nested (suc n) = one_more (part nested n)
  where
    one_more : IsPart nested n → IsPart nested (suc n)
    one_more h =
        let arrays = arrays_of nested.arrays in
        let rounds = rounds_of nested.construct nested.vars in
        let front = steps_to rounds n in
        let round = join (round_at rounds n) in
        let ws = writes_of arrays front nested.store in
        let mid = after ws nested.store in
        let here = writes_of arrays round mid in
        let whole : writes_of arrays (steps_to rounds (suc n)) nested.store ≡ ws ++ here = writes_followed_by arrays front round nested.store in
        record {
          writes = ap (λ s. lays (phase_writes nested n s) (writes_before nested n)) h.store
              ∙ ap (lays (last_writes here)) h.writes
              ∙ lays_last here (last_writes ws) (rising_lays ws [] tt)
              ∙ sym (lays_append ws here [])
              ∙ ap last_writes (sym whole);
          store = ap (λ s. after (phase_writes nested n s) s) h.store
              ∙ after_last here mid
              ∙ sym (after_append ws here nested.store)
              ∙ ap (λ l. after l nested.store) (sym whole);
        }

-- All phases write what the construct writes.
pub phases_are_constructs : (nested : NestedTree) → IsFitNest nested → IsWhole nested
phases_are_constructs nested fit =
    let arrays = arrays_of nested.arrays in
    let all = all_rounds nested.construct nested.vars fit.limits (some_phases nested.construct fit.construct fit.limits) in
    let h = part nested (phases_of nested.construct) in
    record {
      writes = h.writes ∙ ap (λ s. piece_of arrays s nested.store) all;
      store = h.store ∙ ap (λ s. after (writes_of arrays s nested.store) nested.store) all
          ∙ sym (after_last (writes_of arrays (statement_work nested.construct nested.vars) nested.store) nested.store);
    }

-- ---- the pieces of a phase, merged

-- Each job of a phase has the construct's arrays and the phase's store.
in_phase : (nested : NestedTree) (phase : ℕ) (store : Store) (place first : ℕ) (works : List WorkTree) (job : JobTree) →
    IsMember job (numbered nested phase store place first works) → (job.arrays ≡ nested.arrays) × (job.store ≡ store)
in_phase nested phase store place first [] job m = absurd m
in_phase nested phase store place first (work ∷ works) job (inl e) = (ap (λ j. j.arrays) (sym e), ap (λ j. j.store) (sym e))
in_phase nested phase store place first (work ∷ works) job (inr m) = in_phase nested phase store (place + 1) (first + sites_of work) works job m

-- What such a job writes is determined by its steps.
reported_by_steps : (declarations : List Declaration) (store : Store) (order : List JobTree) →
    ((job : JobTree) → IsMember job order → (job.arrays ≡ declarations) × (job.store ≡ store)) →
    map piece_of_job order ≡ map (λ steps. piece_of (arrays_of declarations) steps store) (map steps_of_job order)
reported_by_steps declarations store [] h = refl
reported_by_steps declarations store (job ∷ order) h =
    let own = h job (inl refl) in
    let here : piece_of_job job ≡ piece_of (arrays_of declarations) (steps_of_job job) store
    = ap (λ ds. piece_of (arrays_of ds) (steps_of_job job) job.store) own.0 ∙ ap (piece_of (arrays_of declarations) (steps_of_job job)) own.1 in
    ap (λ ws. ws ∷ map piece_of_job order) here
    ∙ ap (λ l. piece_of (arrays_of declarations) (steps_of_job job) store ∷ l) (reported_by_steps declarations store order (λ j m. h j (inr m)))

round_apart : (arrays : Arrays) (rounds : List (List Steps)) (phase : ℕ) → AreRoundsApart arrays rounds → IsApart arrays (round_at rounds phase)
round_apart arrays [] phase h = tt
round_apart arrays (round ∷ more) zero h = h.0
round_apart arrays (round ∷ more) (suc phase) h = round_apart arrays more phase h.1

first_fits : (nested : NestedTree) (phase : ℕ) (store : Store) (place first : ℕ) (works : List WorkTree) → 0 < length works →
    AreFitJobs (numbered nested phase store place first works) → HaveCells (arrays_of nested.arrays)
first_fits nested phase store place first [] some fit = absurd (omega arith)
first_fits nested phase store place first (work ∷ works) some fit = (sized _ fit.0).each

-- The arrays of a construct have cells.
pub arrays_have_cells : (nested : NestedTree) → IsFitNest nested → 0 < phases_of nested.construct → HaveCells (arrays_of nested.arrays)
arrays_have_cells nested fit some =
    first_fits nested 0 nested.store 0 (nested.site + 1 + earlier_sites nested.construct 0) (piece_trees nested.construct 0) (some_piece nested.construct 0 fit.limits some) (fit.jobs 0 some)

-- The merged pieces of the jobs of a phase, in any order, are the phase's writes.
pub phases_are_merged : (nested : NestedTree) → IsFitNest nested → (phase : ℕ) (store : Store) → phase < phases_of nested.construct →
    (order : List JobTree) → HaveSameJobs order (jobs_in nested phase store) → merged (map piece_of_job order) [] ≡ phase_writes nested phase store
phases_are_merged nested fit phase store h order same =
    let arrays = arrays_of nested.arrays in
    let jobs = jobs_in nested phase store in
    let works = piece_trees nested.construct phase in
    let rounds = jobs_are_rounds nested phase store h in
    let have = first_fits nested phase nested.store 0 _ works (some_piece nested.construct phase fit.limits h) (fit.jobs phase h) in
    let members : HaveSameMembers (map steps_of_job order) (round_of nested phase)
    = subst (HaveSameMembers (map steps_of_job order)) rounds
    (record { to = members_map steps_of_job order jobs same.to; from = members_map steps_of_job jobs order same.from }) in
    ap (λ ps. merged ps []) (reported_by_steps nested.arrays store order (λ job m. in_phase nested phase store 0 _ works job (same.to job m)))
    ∙ any_order arrays (some_cell arrays have) (round_of nested phase) (map steps_of_job order) store
    (round_apart arrays (rounds_of nested.construct nested.vars) phase fit.apart) members

-- ---- the jobs of a phase are a group

placed : (nested : NestedTree) (phase : ℕ) (store : Store) (place first : ℕ) (works : List WorkTree) (i : ℕ) (job : JobTree) →
    slice_get (numbered nested phase store place first works) i ≡ Some job →
    ((job.arrays ≡ nested.arrays) × (job.site ≡ nested.site)) × ((job.phase ≡ phase) × (job.place ≡ place + i))
placed nested phase store place first [] i job e = cc
placed nested phase store place first (work ∷ works) zero job e =
    let same = ap (λ (found : Option JobTree). unwrap_or found job) e in
    let here : place + 0 ≡ place = omega arith in (
      (sym (ap (λ (j : JobTree). j.arrays) same), sym (ap (λ (j : JobTree). j.site) same)),
      (sym (ap (λ (j : JobTree). j.phase) same), sym (ap (λ (j : JobTree). j.place) same) ∙ sym here),
    )
placed nested phase store place first (work ∷ works) (suc i) job e =
    let rest = placed nested phase store (place + 1) (first + sites_of work) works i job e in
    let next : place + 1 + i ≡ place + suc i = omega arith in
    (rest.0, (rest.1.0, rest.1.1 ∙ next))

count_numbered : (nested : NestedTree) (phase : ℕ) (store : Store) (place first : ℕ) (works : List WorkTree) →
    length (numbered nested phase store place first works) ≡ length works
count_numbered nested phase store place first [] = refl
count_numbered nested phase store place first (work ∷ works) = ap suc (count_numbered nested phase store (place + 1) (first + sites_of work) works)

count_branches : (bs : Sequences) → length (branch_trees bs) ≡ count_of bs
count_branches no_more = refl
count_branches (beside first rest) = let more = count_branches rest in omega (arith, more)

pub count_pieces : (construct : Statement) (phase : ℕ) → phase < phases_of construct → length (piece_trees construct phase) ≡ members_of construct
count_pieces (Assign line array index value) phase h = absurd (omega arith)
count_pieces (For line var low high body) phase h = absurd (omega arith)
count_pieces (If line cond then_block else_block) phase h = absurd (omega arith)
count_pieces (Par line branches) phase h = count_branches branches
count_pieces (Team line var low high members phases) phase h =
    count_trees var low high (unsigned_abs members) (phase_at phases phase) 0 (unsigned_abs members)

-- A phase has as many jobs as the construct has branches or members.
pub jobs_are_counted : (nested : NestedTree) (phase : ℕ) (store : Store) → phase < phases_of nested.construct →
    length (jobs_in nested phase store) ≡ members_of nested.construct
jobs_are_counted nested phase store h =
    count_numbered nested phase store 0 _ (piece_trees nested.construct phase) ∙ count_pieces nested.construct phase h

few_fit : (nested : NestedTree) (phase : ℕ) (store : Store) (place first : ℕ) (works : List WorkTree) → place ≤ 64 →
    AreFitJobs (numbered nested phase store place first works) → place + length works ≤ 64
few_fit nested phase store place first [] small fit = omega arith
few_fit nested phase store place first (work ∷ works) small fit =
    let here = fit.0.places in
    let rest = few_fit nested phase store (place + 1) (first + sites_of work) works (omega (arith, here)) fit.1 in
    omega (arith, rest)

-- The jobs of a phase are a group.
pub jobs_are_groups : (nested : NestedTree) → IsFitNest nested → (phase : ℕ) (store : Store) → phase < phases_of nested.construct → IsGroup (jobs_in nested phase store)
jobs_are_groups nested fit phase store h =
    let works = piece_trees nested.construct phase in
    let first = nested.site + 1 + earlier_sites nested.construct phase in
    let count = count_numbered nested phase store 0 first works in
    let some = some_piece nested.construct phase fit.limits h in
    let few = few_fit nested phase nested.store 0 first works (omega arith) (fit.jobs phase h) in
    record {
      some = omega (arith, count, some);
      few = omega (arith, count, few);
      alike = λ i j a b at_i at_j.
          let x = placed nested phase store 0 first works i a at_i in
          let y = placed nested phase store 0 first works j b at_j in
          record { arrays = x.0.0 ∙ sym y.0.0; site = x.0.1 ∙ sym y.0.1; phase = x.1.0 ∙ sym y.1.0 };
      places = λ i job at_i.
          let x = placed nested phase store 0 first works i job at_i in
          x.1.1 ∙ (let none : 0 + i ≡ i = omega arith in none);
    }
