-- A construct enters the sites that its jobs enter.
use Rattle.std.proofs.Common.{◌≡◌, ℕ, zero, suc, ◌+◌, ◌<◌, true, List, ◌∷◌, ◌++◌, ℤ, pos, refl, sym, ap, ◌∙◌, arith, append-nil, add-one}
use Rattle.std.specs.Prelude.{◌&&◌, int_le, unsigned_abs}
use Rattle.std.proofs.lemmas.Bool.{false≢true, and_parts}
use Rattle.array_tree.specs.Trees.{Statement, Assign, For, If, Par, Team, Sequence, Sequences, no_more, beside}
use Rattle.array_meaning.specs.Stores.{Arrays, Vars, Store, HaveCells, arrays_of}
use Rattle.array_meaning.specs.Steps.{join, exec, writes_of}
use Rattle.array_meaning.specs.Work.{loop, sequence_work}
use Rattle.array_meaning.specs.Members.{start_of, team_works}
use Rattle.array_meaning.specs.Sites.{phase_rounds, AreRoundsApart}
use Rattle.array_meaning.specs.Touch.{IsApart}
use Rattle.array_meaning.specs.Limits.{is_up_to, count_of, have_right_ranges}
use Rattle.array_meaning.specs.Entered.{statement_entered, sequence_entered, loop_entered, phases_entered, branches_alone, members_alone, sequence_part}
use Rattle.array_meaning.proofs.CellLemmas.{some_cell}
use Rattle.array_meaning.proofs.EnterAlone.{branches_enter, members_enter}
use Rattle.array_meaning.proofs.MemberLemmas.{members_loop}
use Rattle.array_meaning.proofs.MergeLemmas.{after_last}
use Rattle.step_eval.specs.Nests.{NestedTree, phases_of, branch_trees, member_trees, phase_at, numbered, jobs_in, IsFitNest}
use Rattle.step_eval.specs.Phases.{round_at, store_before}
use Rattle.step_eval.proofs.PieceLemmas.{some_members}
use Rattle.job_machines.specs.Entering.{jobs_entered, phases_enter, JobsEnterTheConstruct}

branch_jobs : (nested : NestedTree) (phase : ℕ) (store : Store) (place first : ℕ) (bs : Sequences) →
    jobs_entered (arrays_of nested.arrays) (numbered nested phase store place first (branch_trees bs)) ≡ branches_alone (arrays_of nested.arrays) bs nested.vars store
branch_jobs nested phase store place first no_more = refl
branch_jobs nested phase store place first (beside body rest) =
    ap (λ x. sequence_entered (arrays_of nested.arrays) body nested.vars store ++ x) (branch_jobs nested phase store (place + 1) _ rest)

member_jobs : (nested : NestedTree) (phase : ℕ) (store : Store) (place first : ℕ) (var : List ℕ) (low high : ℤ) (m : ℕ) (body : Sequence) (j k : ℕ) →
    jobs_entered (arrays_of nested.arrays) (numbered nested phase store place first (member_trees var low high m body j k))
    ≡ members_alone (arrays_of nested.arrays) var low high m body j k nested.vars store
member_jobs nested phase store place first var low high m body j zero = refl
member_jobs nested phase store place first var low high m body j (suc k) =
    let arrays = arrays_of nested.arrays in
    ap (λ x. loop_entered arrays var (start_of low high m j) (start_of low high m (j + 1)) (sequence_part arrays body) nested.vars store ++ x)
    (member_jobs nested phase store (place + 1) _ var low high m body (j + 1) k)

-- The pieces of each phase are those of its body, and are apart.
phase_round : (ps : Sequences) (var : List ℕ) (low high : ℤ) (m : ℕ) (vars : Vars) (phase : ℕ) → phase < count_of ps →
    round_at (phase_rounds ps var low high m vars) phase ≡ team_works var low high m (sequence_work (phase_at ps phase)) vars
phase_round no_more var low high m vars phase h = absurd (omega arith)
phase_round (beside first rest) var low high m vars zero h = refl
phase_round (beside first rest) var low high m vars (suc phase) h = phase_round rest var low high m vars phase (omega arith)

phase_apart : (arrays : Arrays) (ps : Sequences) (var : List ℕ) (low high : ℤ) (m : ℕ) (vars : Vars) (phase : ℕ) → phase < count_of ps →
    AreRoundsApart arrays (phase_rounds ps var low high m vars) → IsApart arrays (team_works var low high m (sequence_work (phase_at ps phase)) vars)
phase_apart arrays no_more var low high m vars phase h apart = absurd (omega arith)
phase_apart arrays (beside first rest) var low high m vars zero h apart = apart.0
phase_apart arrays (beside first rest) var low high m vars (suc phase) h apart = phase_apart arrays rest var low high m vars phase (omega arith) apart.1

module _ (nested : NestedTree) (have : HaveCells (arrays_of nested.arrays)) (line : ℕ) (var : List ℕ) (low high members : ℤ) (phases : Sequences)
    (some : 0 < unsigned_abs members) (apart : AreRoundsApart (arrays_of nested.arrays) (phase_rounds phases var low high (unsigned_abs members) nested.vars)) where
  abbrev whole : NestedTree
  whole = record nested { construct = Team line var low high members phases }

  -- A phase leaves the store that its loop leaves.
  phase_leaves : (k : ℕ) → k < count_of phases → exec (arrays_of nested.arrays) (loop var low high (sequence_work (phase_at phases k)) nested.vars) (store_before whole k) ≡ store_before whole (k + 1)
  phase_leaves k small =
      let arrays = arrays_of nested.arrays in
      let m = unsigned_abs members in
      let store = store_before whole k in
      let body = phase_at phases k in
      let is : join (round_at (phase_rounds phases var low high m nested.vars) k) ≡ loop var low high (sequence_work body) nested.vars
      = ap join (phase_round phases var low high m nested.vars k small) ∙ members_loop var low high m (sequence_work body) nested.vars some in
      let next : store_before whole (suc k) ≡ store_before whole (k + 1) = ap (store_before whole) (sym (add-one k)) in
      ap (λ steps. exec arrays steps store) (sym is)
      ∙ sym (after_last (writes_of arrays (join (round_at (phase_rounds phases var low high m nested.vars) k)) store) store)
      ∙ next

  phases_left : (ps : Sequences) (k : ℕ) → ((i : ℕ) → i < count_of ps → phase_at ps i ≡ phase_at phases (k + i)) → k + count_of ps ≡ count_of phases →
      phases_entered (arrays_of nested.arrays) ps var low high nested.vars (store_before whole k) ≡ phases_enter whole k (count_of ps)
  phases_left no_more k at count = refl
  phases_left (beside first rest) k at count =
      let arrays = arrays_of nested.arrays in
      let m = unsigned_abs members in
      let store = store_before whole k in
      let small : k < count_of phases = omega (arith, count) in
      let place : k + 0 ≡ k = omega arith in
      let is : first ≡ phase_at phases k = at 0 (omega arith) ∙ ap (phase_at phases) place in
      let body = phase_at phases k in
      let here : loop_entered arrays var low high (sequence_part arrays body) nested.vars store ≡ jobs_entered arrays (jobs_in whole k store)
      = members_enter arrays (some_cell arrays have) var low high m body nested.vars store some (phase_apart arrays phases var low high m nested.vars k small apart)
      ∙ sym (member_jobs whole k store 0 _ var low high m body 0 m) in
      let later = phases_left rest (k + 1)
      (λ i lt. at (suc i) (omega (arith, lt)) ∙ (let z : k + suc i ≡ k + 1 + i = omega arith in ap (phase_at phases) z)) (omega (arith, count)) in
      let one : 1 + count_of rest ≡ suc (count_of rest) = omega arith in
      ap (λ b. loop_entered arrays var low high (sequence_part arrays b) nested.vars store
      ++ phases_entered arrays rest var low high nested.vars (exec arrays (loop var low high (sequence_work b) nested.vars) store)) is
      ∙ ap (λ x. x ++ phases_entered arrays rest var low high nested.vars (exec arrays (loop var low high (sequence_work body) nested.vars) store)) here
      ∙ ap (λ s. jobs_entered arrays (jobs_in whole k store) ++ phases_entered arrays rest var low high nested.vars s) (phase_leaves k small)
      ∙ ap (λ x. jobs_entered arrays (jobs_in whole k store) ++ x) later
      ∙ ap (phases_enter whole k) (sym one)

in_construct : (nested : NestedTree) (construct : Statement) → HaveCells (arrays_of nested.arrays) → IsFitNest (record nested { construct = construct }) →
    statement_entered (arrays_of nested.arrays) construct nested.vars nested.store ≡ true ∷ phases_enter (record nested { construct = construct }) 0 (phases_of construct)
in_construct nested (Assign line array index value) have fit = absurd (false≢true fit.construct)
in_construct nested (For line var low high body) have fit = absurd (false≢true fit.construct)
in_construct nested (If line cond then_block else_block) have fit = absurd (false≢true fit.construct)
in_construct nested (Par line branches) have fit =
    let arrays = arrays_of nested.arrays in
    let whole = record nested { construct = Par line branches } in
    ap (λ x. true ∷ x) (branches_enter arrays (some_cell arrays have) branches nested.vars nested.store fit.apart.0
    ∙ sym (branch_jobs whole 0 nested.store 0 (nested.site + 1 + 0) branches) ∙ sym (append-nil _))
in_construct nested (Team line var low high members phases) have fit =
    let limits = (and_parts (int_le low high && is_up_to (pos 64) members) (is_up_to (pos 8) (pos (count_of phases)) && have_right_ranges phases) fit.limits).0 in
    let some = some_members members (and_parts (int_le low high) (is_up_to (pos 64) members) limits).1 in
    ap (λ x. true ∷ x) (phases_left nested have line var low high members phases some fit.apart phases 0
    (λ i lt. let z : i ≡ 0 + i = omega arith in ap (phase_at phases) z) (omega arith))

pub jobs_enter_the_construct : JobsEnterTheConstruct
jobs_enter_the_construct nested have fit = in_construct nested nested.construct have fit
