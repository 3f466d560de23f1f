-- How the account of a machine continues.
use Rattle.std.proofs.Common.{◌≡◌, ℕ, ◌+◌, false, List, [], ◌∷◌, ◌++◌, replicate, Option, Some, None, refl, sym, ap, subst, ◌∙◌, arith}
use Rattle.std.specs.Prelude.{unwrap_or}
use Rattle.std.proofs.lemmas.List.{nil_from_length}
use Rattle.transfer_table.specs.Plan.{Plan, IsPlan}
use Rattle.transfer_table.specs.declared.entry.Entry.{Entry}
use Rattle.transfer_table.specs.Accounts.{KeepsOutside}
use Rattle.array_tree.specs.Trees.{Statement, Assign, For, If, Par, Team, ended, followed, declarations_of}
use Rattle.array_meaning.specs.Stores.{Arrays, Vars, Store, arrays_of, after}
use Rattle.array_meaning.specs.Steps.{exec, writes_of}
use Rattle.array_jobs.specs.Works.{WorkTree, branch_of, member_of, steps_of, sites_of}
use Rattle.array_jobs.specs.Jobs.{JobParts, job_of}
use Rattle.array_eval.specs.Traces.{Trace, traced}
use Rattle.array_eval.proofs.TraceLemmas.{cells_after}
use Rattle.step_eval.specs.declared.stage.Stage.{Stage}
use Rattle.step_eval.specs.Rest.{WorkAt}
use Rattle.step_eval.specs.Moves.{moved, moved_writes, moved_sites}
use Rattle.step_eval.specs.Passes.{work_pass, pass_of}
use Rattle.step_eval.specs.Machines.{Progress, HasMoved, HasRunWhole, stands, moves, skims, construct_of, next_construct, handed_out, nest_in, next_nest}
use Rattle.step_eval.specs.Nests.{NestedTree}
use Rattle.job_machines.specs.Parts.{AreParts}
use Rattle.job_machines.proofs.Parts.{works_stay_parts, whole_works_are_passed, passes_are_spans, constructs_are_parts}
use Rattle.job_machines.specs.Entering.{work_entered, rest_entered}
use Rattle.job_machines.proofs.Counts.{work_length}
use Rattle.job_machines.specs.Piece.{IsAhead, IsAccounted, SkipsAsReported}
use Rattle.job_machines.proofs.Ahead.{next_constructs_are_fresh}
use Rattle.job_machines.proofs.Reported.{next_passes_are_fresh}
use Rattle.job_machines.proofs.Accounts.{accounts_begin, accounts_step, accounts_pass_constructs, accounts_end}
use Rattle.job_machines.specs.Machines.{IsFreshConstruct, IsRunNested, IsGoing, MachinesBegin, MachinesRunOn, MachinesWait, MachinesPass, MachinesGoOn, MachinesFinish}

pub machines_begin : MachinesBegin
machines_begin p around es job is = record {
  parts = (is.part, tt);
  account = (let tree = job_of job in accounts_begin p es (arrays_of tree.arrays) tree.first tree.work tree.vars tree.store is.fresh);
}

-- ---- steps

abbrev standing : JobParts → List WorkAt → Trace → ℕ → Stage → Progress
standing job rest store next stage = record { job = job; rest = rest; store = store; next = next; stage = stage }

-- A machine after a step, with its account continued.
moved_on : (p : Plan) (around : ℕ) (start es' : List Entry) (job : JobParts) (w : WorkAt) (more : List WorkAt) (store : Trace) (next : ℕ) (stage : Stage) (m' : Progress) →
    let tree = job_of job in
    let arrays = arrays_of tree.arrays in
    AreParts p around next (w ∷ more) → HasMoved (w ∷ more) (standing job (w ∷ more) store next stage) m' →
    IsAccounted p start es' arrays tree.first (work_entered arrays tree.work tree.vars tree.store) (moved arrays store.cells w ++ more)
    (after (moved_writes arrays store.cells w.work w.vars) store.cells) (next + moved_sites arrays store.cells w) → IsGoing p around start es' m'
moved_on p around start es' job w more store next stage m' parts went account =
    let tree = job_of job in
    let arrays = arrays_of tree.arrays in
    let meant = work_entered arrays tree.work tree.vars tree.store in
    let cells = cells_after (moved_writes arrays store.cells w.work w.vars) store in
    subst (IsGoing p around start es') (sym went) record {
      parts = works_stay_parts p around next arrays store.cells w more parts;
      account = subst (λ s. IsAccounted p start es' arrays tree.first meant (moved arrays store.cells w ++ more) s (next + moved_sites arrays store.cells w)) (sym cells) account;
    }

-- A step that hands out no construct.
step_on : (p : Plan) (around : ℕ) (start es es' : List Entry) (job : JobParts) (works : List WorkAt) (store : Trace) (next : ℕ) (stage : Stage) (m' : Progress) →
    next_construct works ≡ None → SkipsAsReported p es es' (pass_of (arrays_of (declarations_of job.arrays)) store.cells next works) → HasMoved works (standing job works store next stage) m' →
    IsGoing p around start es (standing job works store next stage) → IsGoing p around start es' m'
step_on p around start es es' job [] store next stage m' none skips went going = absurd went
step_on p around start es es' job (w ∷ more) store next stage m' none skips went going =
    let tree = job_of job in
    let arrays = arrays_of tree.arrays in
    moved_on p around start es' job w more store next stage m' going.parts went
    (accounts_step p start es es' arrays tree.first (work_entered arrays tree.work tree.vars tree.store) w more store.cells next none skips going.account)

-- ---- works that are run at once

-- A work without a site in it or behind it enters no site.
whole_enters : (arrays : Arrays) (w : WorkAt) (more : List WorkAt) (store : Store) → sites_of w.work + w.after ≡ 0 →
    rest_entered arrays (w ∷ more) store ≡ rest_entered arrays more (exec arrays (steps_of w.work w.vars) store)
whole_enters arrays w more store none =
    let rest = rest_entered arrays more (exec arrays (steps_of w.work w.vars) store) in
    let long = work_length arrays w.work w.vars store in
    let own : work_entered arrays w.work w.vars store ≡ [] = nil_from_length (work_entered arrays w.work w.vars store) (omega (arith, long, none)) in
    let gap : w.after ≡ 0 = omega (arith, none) in
    ap (λ xs. xs ++ (replicate w.after false ++ rest)) own ∙ ap (λ n. replicate n false ++ rest) gap

skim_on : (p : Plan) (around : ℕ) (start es : List Entry) (job : JobParts) (works : List WorkAt) (store : Trace) (next : ℕ) (stage : Stage) (m' : Progress) →
    HasRunWhole works (standing job works store next stage) m' → IsGoing p around start es (standing job works store next stage) → IsGoing p around start es m'
skim_on p around start es job [] store next stage m' ran going = absurd ran
skim_on p around start es job (w ∷ more) store next stage m' ran going =
    let tree = job_of job in
    let arrays = arrays_of tree.arrays in
    let steps = steps_of w.work w.vars in
    let none = ran.0 in
    let account = going.account in
    let same : next + sites_of w.work + w.after ≡ next = omega (arith, none) in
    let store_is : (traced arrays steps store).cells ≡ exec arrays steps store.cells = cells_after (writes_of arrays steps store.cells) store in
    subst (IsGoing p around start es) (sym ran.1) record {
      parts = whole_works_are_passed p around next w more going.parts none;
      account = record {
        passed = account.passed;
        place = account.place;
        whole = ap (λ s. account.passed ++ rest_entered arrays more s) store_is ∙ ap (λ x. account.passed ++ x) (sym (whole_enters arrays w more store.cells none)) ∙ account.whole;
        over = account.over;
        ahead = subst (λ n. IsAhead p es n more) same account.ahead.2;
        grown = account.grown;
        outside = account.outside;
      };
    }

-- ---- ways

none_next : (m : Progress) (works : List WorkAt) → nest_in m works ≡ None → next_construct works ≡ None
none_next m [] e = refl
none_next m (w ∷ more) e = of (construct_of w.work) e
  where
    of : (o : Option Statement) → handed_out m w o ≡ None → o ≡ None
    of None f = refl
    of (Some construct) f = absurd (cc)

pub machines_run_on : MachinesRunOn
machines_run_on p around start es m m' stands going = going
machines_run_on p around start es m m' (moves mid last ran stage nest pass went) going =
    step_on p around start es es mid.job mid.rest mid.store mid.next mid.stage last (none_next mid mid.rest nest) (subst (SkipsAsReported p es es) (sym pass) refl) went
    (machines_run_on p around start es m mid ran going)
machines_run_on p around start es m m' (skims mid last ran stage whole) going =
    skim_on p around start es mid.job mid.rest mid.store mid.next mid.stage last whole (machines_run_on p around start es m mid ran going)

-- ---- passes

-- If a step passes a span, no construct is next.
work_passing : (arrays : Arrays) (store : Store) (next : ℕ) (w : WorkTree) (vars : Vars) (span : ℕ × ℕ) → work_pass arrays store next w vars ≡ Some span → construct_of w ≡ None
work_passing arrays store next (branch_of ended) vars span e = refl
work_passing arrays store next (branch_of (followed (Assign line array index value) rest)) vars span e = refl
work_passing arrays store next (branch_of (followed (For line var low high body) rest)) vars span e = refl
work_passing arrays store next (branch_of (followed (If line test left right) rest)) vars span e = refl
work_passing arrays store next (branch_of (followed (Par line branches) rest)) vars span e = absurd (cc)
work_passing arrays store next (branch_of (followed (Team line var low high members phases) rest)) vars span e = absurd (cc)
work_passing arrays store next (member_of var low high body) vars span e = refl

none_passing : (arrays : Arrays) (store : Store) (next : ℕ) (works : List WorkAt) (span : ℕ × ℕ) → pass_of arrays store next works ≡ Some span → next_construct works ≡ None
none_passing arrays store next [] span e = refl
none_passing arrays store next (w ∷ more) span e = work_passing arrays store next w.work w.vars span e

pub machines_pass : MachinesPass
machines_pass p around start es first end m m' going reported went =
    let arrays = arrays_of (declarations_of m.job.arrays) in (
      passes_are_spans p around m.next arrays m.store.cells m.rest (first, end) reported going.parts,
      next_passes_are_fresh p es arrays m.store.cells m.next m.rest (first, end) reported going.account.ahead,
      λ es' skipped.
          step_on p around start es es' m.job m.rest m.store m.next m.stage m' (none_passing arrays m.store.cells m.next m.rest (first, end) reported) (subst (SkipsAsReported p es es') (sym reported) skipped) went going,
    )

-- ---- constructs

abbrev handing : Progress → WorkAt → Statement → NestedTree
handing m w construct = record {
  arrays = declarations_of m.job.arrays;
  site = m.next;
  construct = construct;
  vars = w.vars;
  store = m.store.cells;
}

-- The machine hands out the next construct.
record IsHanded (m : Progress) (w : WorkAt) (nested : NestedTree) : Type 0 where
  construct : Statement
  next : construct_of w.work ≡ Some construct
  is : handing m w construct ≡ nested

handed : (m : Progress) (w : WorkAt) (nested : NestedTree) → handed_out m w (construct_of w.work) ≡ Some nested → IsHanded m w nested
handed m w nested e = of (construct_of w.work) refl e
  where
    of : (o : Option Statement) → construct_of w.work ≡ o → handed_out m w o ≡ Some nested → IsHanded m w nested
    of None is f = absurd (cc)
    of (Some construct) is f = record { construct = construct; next = is; is = ap (λ (o : Option NestedTree). unwrap_or o nested) f }

fresh_next : (p : Plan) (around : ℕ) (es : List Entry) (nested : NestedTree) (m : Progress) (works : List WorkAt) → IsPlan p → AreParts p around m.next works → IsAhead p es m.next works →
    nest_in m works ≡ Some nested → IsFreshConstruct p around es nested
fresh_next p around es nested m [] plan parts ahead e = absurd (cc)
fresh_next p around es nested m (w ∷ more) plan parts ahead e =
    let it = handed m w nested e in
    subst (IsFreshConstruct p around es) it.is record {
      part = constructs_are_parts p around m.next w more it.construct plan it.next parts;
      fresh = next_constructs_are_fresh p es w more m.next it.construct it.next ahead;
    }

pub machines_wait : MachinesWait
machines_wait p around start es nested m plan going next = (
  record { next = next; going = record { parts = going.parts; account = going.account } },
  fresh_next p around es nested m m.rest plan going.parts going.account.ahead next,
)

supplied_on : (p : Plan) (around : ℕ) (start es es' : List Entry) (nested : NestedTree) (job : JobParts) (works : List WorkAt) (store : Trace) (next : ℕ) (stage : Stage) (m' : Progress) →
    next_nest (standing job works store next stage) ≡ Some nested → IsRunNested p es es' nested → HasMoved works (standing job works store next stage) m' →
    IsGoing p around start es (standing job works store next stage) → IsGoing p around start es' m'
supplied_on p around start es es' nested job [] store next stage m' e ran went going = absurd went
supplied_on p around start es es' nested job (w ∷ more) store next stage m' e ran went going =
    let tree = job_of job in
    let arrays = arrays_of tree.arrays in
    let it = handed (standing job (w ∷ more) store next stage) w nested e in
    moved_on p around start es' job w more store next stage m' going.parts went
    (accounts_pass_constructs p start es es' arrays tree.first (work_entered arrays tree.work tree.vars tree.store) w more store.cells next it.construct it.next
    (subst (IsRunNested p es es') (sym it.is) ran) going.account)

pub machines_go_on : MachinesGoOn
machines_go_on p around start es es' nested m m' waiting ran went =
    supplied_on p around start es es' nested m.job m.rest m.store m.next m.stage m' waiting.next ran went waiting.going

-- ---- the end

pub machines_finish : MachinesFinish
machines_finish p around start es m going none =
    let tree = job_of m.job in
    let arrays = arrays_of tree.arrays in
    let meant = work_entered arrays tree.work tree.vars tree.store in
    record {
      over = accounts_end p start es arrays tree.first meant m.store.cells m.next
          (subst (λ rest. IsAccounted p start es arrays tree.first meant rest m.store.cells m.next) none going.account);
      grown = going.account.grown;
      outside = subst (λ n. KeepsOutside p start es tree.first n) (work_length arrays tree.work tree.vars tree.store) going.account.outside;
    }
