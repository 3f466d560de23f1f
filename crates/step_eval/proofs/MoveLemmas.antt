-- A step keeps a machine right.
use Rattle.std.proofs.Common.{◌≡◌, ℕ, ◌+◌, ◌*◌, Bool, true, false, cond, List, [], ◌∷◌, ◌++◌, length, None, pos, ◌+ℤ◌, ◌<ℤ◌, refl, sym, ap, subst, ◌∙◌, arith}
use Rattle.std.specs.Prelude.{int_lt}
use Rattle.std.proofs.lemmas.Int.{ints}
use Rattle.std.proofs.lemmas.List.{length-replicate}
use Rattle.array_tree.specs.Trees.{Assign, For, If, Par, Team, ended, followed}
use Rattle.array_meaning.specs.Values.{holds}
use Rattle.array_meaning.specs.Stores.{Arrays, Vars, Store, Write, after, arrays_of, value_of}
use Rattle.array_meaning.specs.Steps.{Steps, followed_by, writes_of}
use Rattle.array_meaning.specs.Work.{span, loop, statement_work, sequence_work}
use Rattle.array_meaning.specs.Plans.{sites_in}
use Rattle.array_meaning.specs.Pieces.{lays, last_writes, piece_of, IsRising}
use Rattle.array_meaning.proofs.StepLemmas.{followed_by_done, followed_by_assoc, writes_followed_by, loop_next, length_after}
use Rattle.array_meaning.proofs.LastLemmas.{lays_append}
use Rattle.array_meaning.proofs.MergeLemmas.{supplied}
use Rattle.array_jobs.specs.Works.{WorkTree, branch_of, member_of, steps_of, sites_of}
use Rattle.array_jobs.specs.Jobs.{JobTree, IsFit}
use Rattle.array_eval.specs.Traces.{Trace, fresh, noted_all, marked, traced}
use Rattle.array_meaning.proofs.BelowLemmas.{AreBelow}
use Rattle.array_eval.proofs.TraceLemmas.{cells_after, marked_after, none_marked, length_marks}
use Rattle.step_eval.specs.Rest.{WorkAt, at, before, rest_steps, rest_sites, instead, AreFit}
use Rattle.step_eval.specs.Moves.{work_moved, moved, moved_writes, work_passes, moved_sites}
use Rattle.step_eval.specs.Machines.{IsRight, construct_of}
use Rattle.step_eval.proofs.LeftLemmas.{span_times}
use Rattle.step_eval.proofs.FitMoves.{fit_moved}
use Rattle.step_eval.proofs.WriteLemmas.{rising_marked, last_writes_rising, moved_below, steps_below}

-- ---- sites

work_sites : (arrays : Arrays) (store : Store) (w : WorkTree) (vars : Vars) (n : ℕ) (more : List WorkAt) →
    work_passes arrays store w vars n + rest_sites (work_moved arrays store w vars n ++ more) ≡ sites_of w + n + rest_sites more
work_sites arrays store (branch_of ended) vars n more = omega arith
work_sites arrays store (branch_of (followed (Assign line array index value) rest)) vars n more = omega arith
work_sites arrays store (branch_of (followed (For line var low high body) rest)) vars n more = omega arith
work_sites arrays store (branch_of (followed (If line test left right) rest)) vars n more = cases (holds (value_of arrays vars test store))
  where
    cases : (b : Bool) → cond b 0 (sites_in left) + rest_sites (cond b (before (branch_of left) vars (sites_in right)) (at (branch_of right) vars) ∷ before (branch_of rest) vars n ∷ more)
        ≡ sites_in left + sites_in right + sites_in rest + n + rest_sites more
    cases true = omega arith
    cases false = omega arith
work_sites arrays store (branch_of (followed (Par line branches) rest)) vars n more = omega arith
work_sites arrays store (branch_of (followed (Team line var low high members phases) rest)) vars n more = omega arith
work_sites arrays store (member_of var low high body) vars n more = cases (int_lt low high) refl
  where
    cases : (b : Bool) → int_lt low high ≡ b →
        cond b 0 n + rest_sites (cond b (at (branch_of body) ((var, low) ∷ vars) ∷ before (member_of var (low +ℤ pos 1) high body) vars n ∷ []) [] ++ more)
        ≡ span low high * sites_in body + n + rest_sites more
    cases true e = let turn = span_times low high (sites_in body) e in omega (arith, turn)
    cases false e = let none : span low high ≡ 0 = rw e refl in rw none (omega arith)

-- The sites that a step takes and the remaining ones after it are those left before it.
pub sites_moved : (arrays : Arrays) (store : Store) (w : WorkAt) (more : List WorkAt) →
    moved_sites arrays store w + rest_sites (moved arrays store w ++ more) ≡ rest_sites (w ∷ more)
sites_moved arrays store w more = work_sites arrays store w.work w.vars w.after more

-- ---- writes

-- A work without a construct writes its own writes when it begins, and the works that it leaves precede the rest.
work_rest : (arrays : Arrays) (w : WorkTree) (vars : Vars) (n : ℕ) (more : List WorkAt) (cells : Store) → construct_of w ≡ None →
    writes_of arrays (rest_steps (before w vars n ∷ more)) cells
    ≡ moved_writes arrays cells w vars ++ writes_of arrays (rest_steps (work_moved arrays cells w vars n ++ more)) (after (moved_writes arrays cells w vars) cells)
work_rest arrays (branch_of ended) vars n more cells none = refl
work_rest arrays (branch_of (followed (Assign line array index value) rest)) vars n more cells none = refl
work_rest arrays (branch_of (followed (For line var low high body) rest)) vars n more cells none =
    ap (λ s. writes_of arrays s cells) (followed_by_assoc (loop var low high (sequence_work body) vars) (sequence_work rest vars) (rest_steps more))
work_rest arrays (branch_of (followed (If line test left right) rest)) vars n more cells none = cases (holds (value_of arrays vars test cells))
  where
    cases : (b : Bool) →
        cond b (writes_of arrays (sequence_work left vars) cells) (writes_of arrays (sequence_work right vars) cells)
        ++ writes_of arrays (followed_by (sequence_work rest vars) (rest_steps more))
        (after (cond b (writes_of arrays (sequence_work left vars) cells) (writes_of arrays (sequence_work right vars) cells)) cells)
        ≡ writes_of arrays
        (rest_steps (cond b (before (branch_of left) vars (sites_in right)) (at (branch_of right) vars) ∷ before (branch_of rest) vars n ∷ more)) cells
    cases true = sym (writes_followed_by arrays (sequence_work left vars) (followed_by (sequence_work rest vars) (rest_steps more)) cells)
    cases false = sym (writes_followed_by arrays (sequence_work right vars) (followed_by (sequence_work rest vars) (rest_steps more)) cells)
work_rest arrays (branch_of (followed (Par line branches) rest)) vars n more cells none = cc
work_rest arrays (branch_of (followed (Team line var low high members phases) rest)) vars n more cells none = cc
work_rest arrays (member_of var low high body) vars n more cells none = cases (int_lt low high) refl
  where
    cases : (b : Bool) → int_lt low high ≡ b →
        writes_of arrays (followed_by (loop var low high (sequence_work body) vars) (rest_steps more)) cells
        ≡ writes_of arrays
        (rest_steps (cond b (at (branch_of body) ((var, low) ∷ vars) ∷ before (member_of var (low +ℤ pos 1) high body) vars n ∷ []) [] ++ more)) cells
    cases true e =
        let less : low <ℤ high = grind (arith, ints) in
        ap (λ s. writes_of arrays s cells)
        (ap (λ s. followed_by s (rest_steps more)) (loop_next var low high (sequence_work body) vars less)
        ∙ followed_by_assoc (sequence_work body ((var, low) ∷ vars)) (loop var (low +ℤ pos 1) high (sequence_work body) vars) (rest_steps more))
    cases false e = rw e refl

-- If no construct is next, the remaining writes are those of the step and those of what the step leaves.
pub rest_moved : (arrays : Arrays) (w : WorkAt) (more : List WorkAt) (cells : Store) → construct_of w.work ≡ None →
    writes_of arrays (rest_steps (w ∷ more)) cells
    ≡ moved_writes arrays cells w.work w.vars
    ++ writes_of arrays (rest_steps (moved arrays cells w ++ more)) (after (moved_writes arrays cells w.work w.vars) cells)
rest_moved arrays w more cells none = work_rest arrays w.work w.vars w.after more cells none

-- The same, laid over earlier writes.
plain_laid : (arrays : Arrays) (w : WorkTree) (vars : Vars) (n : ℕ) (more : List WorkAt) (cells : Store) (laid : List Write) → construct_of w ≡ None →
    lays (writes_of arrays (rest_steps (before w vars n ∷ more)) cells) laid
    ≡ lays (writes_of arrays (rest_steps (work_moved arrays cells w vars n ++ more)) (after (moved_writes arrays cells w vars) cells))
    (lays (moved_writes arrays cells w vars) laid)
plain_laid arrays w vars n more cells laid none =
    ap (λ ws. lays ws laid) (work_rest arrays w vars n more cells none)
    ∙ lays_append (moved_writes arrays cells w vars)
    (writes_of arrays (rest_steps (work_moved arrays cells w vars n ++ more)) (after (moved_writes arrays cells w vars) cells)) laid

-- For a construct, its piece is laid, and then the writes after it.
construct_laid : (arrays : Arrays) (construct : Steps) (rest more : Steps) (cells : Store) (laid : List Write) → IsRising laid →
    lays (writes_of arrays (followed_by (followed_by construct rest) more) cells) laid
    ≡ lays (writes_of arrays (followed_by rest more) (after (piece_of arrays construct cells) cells)) (lays (piece_of arrays construct cells) laid)
construct_laid arrays construct rest more cells laid rises =
    ap (λ s. lays (writes_of arrays s cells) laid) (followed_by_assoc construct rest more)
    ∙ sym (supplied arrays construct (followed_by rest more) cells laid rises)

-- In both cases the remaining writes are those of the step and those of what the step leaves.
work_laid : (arrays : Arrays) (w : WorkTree) (vars : Vars) (n : ℕ) (more : List WorkAt) (cells : Store) (laid : List Write) → IsRising laid →
    lays (writes_of arrays (rest_steps (before w vars n ∷ more)) cells) laid
    ≡ lays (writes_of arrays (rest_steps (work_moved arrays cells w vars n ++ more)) (after (moved_writes arrays cells w vars) cells))
    (lays (moved_writes arrays cells w vars) laid)
work_laid arrays (branch_of ended) vars n more cells laid rises = refl
work_laid arrays (branch_of (followed (Assign line array index value) rest)) vars n more cells laid rises = refl
work_laid arrays (branch_of (followed (For line var low high body) rest)) vars n more cells laid rises =
    plain_laid arrays (branch_of (followed (For line var low high body) rest)) vars n more cells laid refl
work_laid arrays (branch_of (followed (If line test left right) rest)) vars n more cells laid rises =
    plain_laid arrays (branch_of (followed (If line test left right) rest)) vars n more cells laid refl
work_laid arrays (branch_of (followed (Par line branches) rest)) vars n more cells laid rises =
    construct_laid arrays (statement_work (Par line branches) vars) (sequence_work rest vars) (rest_steps more) cells laid rises
work_laid arrays (branch_of (followed (Team line var low high members phases) rest)) vars n more cells laid rises =
    construct_laid arrays (statement_work (Team line var low high members phases) vars) (sequence_work rest vars) (rest_steps more) cells laid rises
work_laid arrays (member_of var low high body) vars n more cells laid rises =
    plain_laid arrays (member_of var low high body) vars n more cells laid refl

-- The last values of marked cells and of more writes: the writes are laid over the marked cells.
last_of_both : (t : Trace) (ws : List Write) → last_writes (marked t ++ ws) ≡ lays ws (marked t)
last_of_both t ws = lays_append (marked t) ws [] ∙ ap (lays ws) (last_writes_rising (marked t) (rising_marked t))

-- A step of a fit work keeps the last values of all writes, those so far and the remaining ones.
pub writes_moved : (job : JobTree) (w : WorkAt) (more : List WorkAt) (store : Trace) (next : ℕ) → IsFit (instead job next w) →
    length store.cells ≡ length job.store → length store.marks ≡ length job.store →
    let arrays = arrays_of job.arrays in
    let ws = moved_writes arrays store.cells w.work w.vars in
    last_writes (marked store ++ writes_of arrays (rest_steps (w ∷ more)) store.cells)
    ≡ last_writes (marked (noted_all ws store)
    ++ writes_of arrays (rest_steps (moved arrays store.cells w ++ more)) (noted_all ws store).cells)
writes_moved job w more store next fit cells marks =
    let arrays = arrays_of job.arrays in
    let ws = moved_writes arrays store.cells w.work w.vars in
    let left = rest_steps (moved arrays store.cells w ++ more) in
    let below : AreBelow (length store.cells) ws = moved_below (instead job next w) fit store.cells (cells ∙ fit.cells) in
    let laid : marked (noted_all ws store) ≡ lays ws (marked store) = marked_after ws store below (cells ∙ sym marks) in
    last_of_both store (writes_of arrays (rest_steps (w ∷ more)) store.cells)
    ∙ work_laid arrays w.work w.vars w.after more store.cells (marked store) (rising_marked store)
    ∙ ap (lays (writes_of arrays left (after ws store.cells))) (sym laid)
    ∙ ap (λ s. lays (writes_of arrays left s) (marked (noted_all ws store))) (sym (cells_after ws store))
    ∙ sym (last_of_both (noted_all ws store) (writes_of arrays left (noted_all ws store).cells))

-- ---- machines

-- A step keeps a machine right if what the step leaves is fit.
pub right_moved : (job : JobTree) (w : WorkAt) (more : List WorkAt) (store : Trace) (next : ℕ) → IsRight job (w ∷ more) store next →
    IsRight job (moved (arrays_of job.arrays) store.cells w ++ more)
    (noted_all (moved_writes (arrays_of job.arrays) store.cells w.work w.vars) store) (next + moved_sites (arrays_of job.arrays) store.cells w)
right_moved job w more store next right =
    let arrays = arrays_of job.arrays in
    let ws = moved_writes arrays store.cells w.work w.vars in
    record {
      writes = sym (writes_moved job w more store next right.fit.0 right.cells right.marks) ∙ right.writes;
      sites = (let passed = sites_moved arrays store.cells w more in let all = right.sites in omega (arith, passed, all));
      fit = fit_moved job next w more store.cells right.fit;
      cells = ap length (cells_after ws store) ∙ length_after ws store.cells ∙ right.cells;
      marks = length_marks ws store ∙ right.marks;
    }

-- A machine made from a fit job is right.
pub right_fresh : (job : JobTree) → IsFit job → IsRight job (at job.work job.vars ∷ []) (fresh job.store) job.first
right_fresh job fit =
    let arrays = arrays_of job.arrays in
    record {
      writes = ap (λ ws. last_writes (ws ++ writes_of arrays (rest_steps (at job.work job.vars ∷ [])) job.store))
          (none_marked 0 job.store (length job.store))
          ∙ ap (λ s. last_writes (writes_of arrays s job.store)) (followed_by_done (steps_of job.work job.vars));
      sites = omega arith;
      fit = (fit, tt);
      cells = refl;
      marks = length-replicate (length job.store) false;
    }

-- ---- a work that is run at once

-- A work without sites in it or behind it that is run at once leaves a right machine.
pub right_run : (job : JobTree) (w : WorkAt) (more : List WorkAt) (store : Trace) (next : ℕ) → sites_of w.work + w.after ≡ 0 → IsRight job (w ∷ more) store next →
    IsRight job more (traced (arrays_of job.arrays) (steps_of w.work w.vars) store) next
right_run job w more store next none right =
    let arrays = arrays_of job.arrays in
    let steps = steps_of w.work w.vars in
    let ws = writes_of arrays steps store.cells in
    let now = noted_all ws store in
    let left = rest_steps more in
    let cells = right.cells in
    let below : AreBelow (length store.cells) ws = steps_below (instead job next w) right.fit.0 store.cells (cells ∙ right.fit.0.cells) in
    let laid : marked now ≡ lays ws (marked store) = marked_after ws store below (cells ∙ sym right.marks) in
    let passed : next + sites_of w.work + w.after ≡ next = omega (arith, none) in
    record {
      writes = last_of_both now (writes_of arrays left now.cells)
          ∙ ap (lays (writes_of arrays left now.cells)) laid
          ∙ ap (λ s. lays (writes_of arrays left s) (lays ws (marked store))) (cells_after ws store)
          ∙ sym (lays_append ws (writes_of arrays left (after ws store.cells)) (marked store))
          ∙ ap (λ x. lays x (marked store)) (sym (writes_followed_by arrays steps left store.cells))
          ∙ sym (last_of_both store (writes_of arrays (followed_by steps left) store.cells))
          ∙ right.writes;
      sites = (let all = right.sites in omega (arith, none, all));
      fit = subst (λ n. AreFit job n more) passed right.fit.1;
      cells = ap length (cells_after ws store) ∙ length_after ws store.cells ∙ cells;
      marks = length_marks ws store ∙ right.marks;
    }
