-- What a machine's calls keep, and what they do.
use Rattle.std.proofs.Common.{◌≡◌, ℕ, ◌+◌, ◌-◌, ◌<◌, ◌≤◌, List, [], ◌∷◌, ◌++◌, length, Option, Some, None, refl, sym, ap, subst, ◌∙◌, arith}
use Rattle.std.specs.Prelude.{IsSome}
use Rattle.std.specs.Borrow.{Bor}
use Rattle.std.proofs.lemmas.Bool.{false≢true}
use Rattle.contexts.specs.declared.machine.Step.{Step}
use Rattle.contexts.specs.declared.machine.Step.TheVariants as step
use Rattle.contexts.specs.Machine.{Steps}
use Rattle.array_tree.specs.declared.tree.Stmt.{Stmt}
use Rattle.array_tree.specs.Trees.{Statement, statement_of, Assign, For, If, Par, Team, ended, followed, declarations_of}
use Rattle.array_meaning.specs.Stores.{Arrays, Vars, Store, Write, after, arrays_of}
use Rattle.array_meaning.specs.Plans.{statement_sites_in}
use Rattle.array_meaning.proofs.StepLemmas.{length_after}
use Rattle.array_eval.specs.Traces.{Trace, fresh, noted_all}
use Rattle.array_eval.proofs.TraceLemmas.{cells_after}
use Rattle.array_eval.specs.Overlays.{Laid}
use Rattle.array_jobs.specs.Works.{WorkTree, work_of, branch_of, member_of}
use Rattle.array_jobs.specs.Jobs.{JobParts, IsFit, job_of}
use Rattle.step_eval.specs.declared.found.Found.{Found}
use Rattle.step_eval.specs.declared.found.Found.TheVariants as found
use Rattle.step_eval.specs.declared.stage.Stage.{Stage}
use Rattle.step_eval.specs.declared.stage.Stage.TheVariants.{Going, Awaiting, Failed}
use Rattle.step_eval.specs.declared.frames.Frames.{Frames}
use Rattle.step_eval.specs.Rest.{WorkAt, rest_sites}
use Rattle.step_eval.specs.Rest.{before as before_sites}
use Rattle.step_eval.specs.Moves.{moved, moved_writes, moved_sites, rest_left}
use Rattle.step_eval.specs.Passes.{work_pass}
use Rattle.step_eval.specs.Nests.{NestedTree, nested_of}
use Rattle.step_eval.specs.Machines.{Progress, IsRight, IsKept, construct_of, next_construct, nest_in, handed_out, rest_writes, to_do, HasMoved, Advances, AreAwaited, AreAwaitedBy}
use Rattle.step_eval.specs.Inside.Frames.{frames_in, works_of, vars_in, IsMore, IsStacked, AreAll, HaveMoved, HasPassed, IsPast, IsConstruct}
use Rattle.step_eval.specs.Inside.Parts.{IsWhole, IsSound, while_going, Advanced, stage_by, sites_seen}
use Rattle.step_eval.proofs.LeftLemmas.{left_moved, left_passed, left_positive}
use Rattle.step_eval.proofs.MoveLemmas.{right_fresh, right_moved, rest_moved}
use Rattle.step_eval.proofs.HandLemmas.{at_construct, is_handed_out, no_construct, supply_writes, supply_sites}

-- A machine made from a fit job is sound.
pub sound_fresh : (inside job : JobParts) (frames : Frames) (store : Trace) (room : Laid) → inside ≡ job → IsFit (job_of inside) →
    AreAll (work_of inside.work) frames → IsStacked frames → store ≡ fresh inside.store → room.pairs ≡ [] → room.room ≡ length store.cells →
    IsSound Going job frames store room inside.first
sound_fresh inside job frames store room same fit all stacked new none roomy =
    subst (λ j. IsSound Going j frames store room inside.first) same record {
      kept = rw (all inside.vars, new) (right_fresh (job_of inside) fit);
      stacked = stacked;
      none = none;
      roomy = omega (arith, roomy);
    }

-- ---- a step

-- Writes keep the number of cells.
pub length_noted : (ws : List Write) (store : Trace) → length (noted_all ws store).cells ≡ length store.cells
length_noted ws store = ap length (cells_after ws store) ∙ length_after ws store.cells

-- The machine after a step without an allocation failure.
abbrev pub after_step : JobParts → ℕ → Step Found → List WorkAt → Trace → Progress
after_step job next s rest store = record { job = job; rest = rest; store = store; next = next; stage = stage_by s }

-- A step has the effect that the machine's progress states.
pub advances : (job : JobParts) (works rest : List WorkAt) (store store' : Trace) (next next' : ℕ) (s : Step Found) →
    Advanced (while_going job works store next) s rest store' next' → Advances (while_going job works store next) s (after_step job next' s rest store')
advances job [] rest store store' next next' step.More done = absurd done.2
advances job (w ∷ more) rest store store' next next' step.More done =
    (refl, done.0, done.1, (let after = done.2.0 in let now = done.2.1 in let passed = done.2.2 in cc))
advances job [] rest store store' next next' (step.Nest (found.Pass first end)) done = absurd done.2
advances job (w ∷ more) rest store store' next next' (step.Nest (found.Pass first end)) done =
    (refl, done.1, (let after = done.2.0 in let now = done.2.1 in let passed = done.2.2 in cc))
advances job works rest store store' next next' (step.Nest (found.Nest nested)) done =
    (refl, done.0, (let same = done.1 in let now = done.2 in let passed = done.3 in cc))
advances job works rest store store' next next' step.Finished done = (refl, done.0, rw (done.1, done.2, done.3) refl)
advances job works rest store store' next next' step.NoMemory done = absurd done

-- An `if` writes nothing when it begins.
nothing_written : (arrays : Arrays) (store : Store) (next : ℕ) (work : WorkTree) (vars : Vars) (span : ℕ × ℕ) → work_pass arrays store next work vars ≡ Some span →
    moved_writes arrays store work vars ≡ []
nothing_written arrays store next (branch_of ended) vars span e = refl
nothing_written arrays store next (branch_of (followed (Assign line array index value) rest)) vars span e = cc
nothing_written arrays store next (branch_of (followed (For line var low high body) rest)) vars span e = refl
nothing_written arrays store next (branch_of (followed (If line cond then_block else_block) rest)) vars span e = refl
nothing_written arrays store next (branch_of (followed (Par line branches) rest)) vars span e = cc
nothing_written arrays store next (branch_of (followed (Team line var low high members phases) rest)) vars span e = cc
nothing_written arrays store next (member_of var low high body) vars span e = refl

-- The machine's remaining writes are those of the step and the remaining ones after it, and fewer steps are left.
record HasWritten (job : JobParts) (w : WorkAt) (more rest : List WorkAt) (store store' : Trace) (next next' : ℕ) (stage : Stage) : Type 0 where
  writes : rest_writes (while_going job (w ∷ more) store next)
      ≡ moved_writes (arrays_of (declarations_of job.arrays)) store.cells w.work w.vars
      ++ rest_writes record { job = job; rest = rest; store = store'; next = next'; stage = stage }
  fewer : rest_left rest < rest_left (w ∷ more)

has_written : (job : JobParts) (w : WorkAt) (more rest : List WorkAt) (store store' : Trace) (next next' : ℕ) (stage : Stage) → construct_of w.work ≡ None →
    HaveMoved (arrays_of (declarations_of job.arrays)) (w ∷ more) store next rest store' next' → HasWritten job w more rest store store' next next' stage
has_written job w more rest store store' next next' stage none done =
    let arrays = arrays_of (declarations_of job.arrays) in
    let ws = moved_writes arrays store.cells w.work w.vars in
    let cells : store'.cells ≡ after ws store.cells = ap (λ t. t.cells) done.1 ∙ cells_after ws store in
    record {
      writes = rest_moved arrays w more store.cells none ∙ rw (done.0, cells) refl;
      fewer = rw done.0 (left_moved arrays store.cells w more);
    }

-- The machine's step is a step of any machine.
pub steps : (job : JobParts) (works rest : List WorkAt) (store store' : Trace) (next next' : ℕ) (s : Step Found) →
    Advanced (while_going job works store next) s rest store' next' →
    Steps (to_do (while_going job works store next)) s (to_do (after_step job next' s rest store'))
steps job [] rest store store' next next' step.More done = absurd done.2
steps job (w ∷ more) rest store store' next next' step.More done =
    let none = no_construct (while_going job (w ∷ more) store next) w done.0 in
    let has = has_written job w more rest store store' next next' Going none done.2 in
    ((moved_writes (arrays_of (declarations_of job.arrays)) store.cells w.work w.vars, has.writes), refl, has.fewer)
steps job [] rest store store' next next' (step.Nest (found.Pass first end)) done = absurd done.2
steps job (w ∷ more) rest store store' next next' (step.Nest (found.Pass first end)) done =
    let arrays = arrays_of (declarations_of job.arrays) in
    let none = no_construct (while_going job (w ∷ more) store next) w done.0 in
    let has = has_written job w more rest store store' next next' Going none done.2 in
    let left = rest_writes (while_going job rest store' next') in
    let nothing = nothing_written arrays store.cells next w.work w.vars (first, end) done.1 in
    (sym (has.writes ∙ ap (λ ws. ws ++ left) nothing), has.fewer)
steps job [] rest store store' next next' (step.Nest (found.Nest nested)) done = cc
steps job (w ∷ more) rest store store' next next' (step.Nest (found.Nest nested)) done =
    let some = left_positive w more in
    let left : rest_left rest - 1 < rest_left (w ∷ more) = rw done.1 (omega (arith, some)) in
    (rw (done.1, done.2) refl, left)
steps job works rest store store' next next' step.Finished done =
    let none = done.0 in let same = done.1 in let now = done.2 in
    (rw none refl, rw none refl, rw (same, now) refl)
steps job works rest store store' next next' step.NoMemory done = absurd done

-- A machine with something left to run is not done.
pub more_left : (works : List WorkAt) → IsMore works → 0 < rest_left works
more_left [] more = absurd more
more_left (w ∷ works) more = left_positive w works

-- In a right machine with a fit job, each remaining site has a number.
pub sites_have_room : (job : JobParts) (rest : List WorkAt) (store : Trace) (next : ℕ) → IsFit (job_of job) → IsRight (job_of job) rest store next →
    next + rest_sites rest ≤ 4096
sites_have_room job rest store next fit right = let all = right.sites in let room = fit.sites in omega (arith, all, room)

-- ---- and then

abbrev IsKeptBy : Step Found → JobParts → List WorkAt → Trace → Trace → ℕ → Type 0
IsKeptBy s job rest store store' next = IsKept (stage_by s) (job_of job) rest store' next × (length store'.cells ≡ length store.cells)

some_construct : (machine : Progress) (works : List WorkAt) (nested : NestedTree) → nest_in machine works ≡ Some nested → IsSome (next_construct works)
some_construct machine [] nested e = cc
some_construct machine (w ∷ more) nested e = cases (construct_of w.work) e
  where
    cases : (found : Option Statement) → handed_out machine w found ≡ Some nested → IsSome found
    cases None e = cc
    cases (Some construct) e = refl

-- After a step of the first work the machine is right.
kept_moved : (job : JobParts) (w : WorkAt) (more rest : List WorkAt) (store store' : Trace) (next next' : ℕ) → IsRight (job_of job) (w ∷ more) store next →
    HaveMoved (arrays_of (declarations_of job.arrays)) (w ∷ more) store next rest store' next' →
    IsRight (job_of job) rest store' next' × (length store'.cells ≡ length store.cells)
kept_moved job w more rest store store' next next' right done =
    let ws = moved_writes (arrays_of (declarations_of job.arrays)) store.cells w.work w.vars in
    (rw (done.0, done.1, done.2) (right_moved (job_of job) w more store next right), rw done.1 (length_noted ws store))

kept_by : (job : JobParts) (works rest : List WorkAt) (store store' : Trace) (next next' : ℕ) (s : Step Found) → IsRight (job_of job) works store next →
    Advanced (while_going job works store next) s rest store' next' → IsKeptBy s job rest store store' next'
kept_by job [] rest store store' next next' step.More right done = absurd done.2
kept_by job (w ∷ more) rest store store' next next' step.More right done = kept_moved job w more rest store store' next next' right done.2
kept_by job [] rest store store' next next' (step.Nest (found.Pass first end)) right done = absurd done.2
kept_by job (w ∷ more) rest store store' next next' (step.Nest (found.Pass first end)) right done = kept_moved job w more rest store store' next next' right done.2
kept_by job works rest store store' next next' (step.Nest (found.Nest nested)) right done =
    (rw (done.1, done.2, done.3) (right, some_construct (while_going job works store next) works (nested_of nested) done.0), rw done.2 refl)
kept_by job works rest store store' next next' step.Finished right done = (rw (done.1, done.2, done.3) right, rw done.2 refl)
kept_by job works rest store store' next next' step.NoMemory right done = absurd done

sound_of_whole : (stage : Stage) (job : JobParts) (frames : Frames) (store : Trace) (room : Laid) (next : ℕ) →
    IsWhole stage job frames store room next → IsSound stage job frames store room next
sound_of_whole Going job frames store room next whole = whole
sound_of_whole Awaiting job frames store room next whole = whole
sound_of_whole Failed job frames store room next whole = tt

-- A step without an allocation failure keeps a machine sound.
pub sound_advanced : (job : JobParts) (before after : Frames) (store store' : Trace) (room : Laid) (next next' : ℕ) (s : Step Found) →
    IsSound Going job before store room next → Advanced (while_going job (works_of before job.vars) store next) s (works_of after job.vars) store' next' →
    IsStacked after → IsSound (stage_by s) job after store' room next'
sound_advanced job before after store store' room next next' s sound done stacked =
    let kept = kept_by job (works_of before job.vars) (works_of after job.vars) store store' next next' s sound.kept done in
    let cells = kept.1 in
    let roomy = sound.roomy in
    sound_of_whole (stage_by s) job after store' room next' record {
      kept = kept.0;
      stacked = stacked;
      none = sound.none;
      roomy = omega (arith, cells, roomy);
    }

-- ---- a supply

-- A machine that took the writes of the next construct is behind the construct, and is sound.
pub record IsSupplied (job : JobParts) (before after : Frames) (store store' : Trace) (room : Laid) (next next' : ℕ) : Type 0 where
  pub moved : HasMoved (works_of before job.vars) record { job = job; rest = works_of before job.vars; store = store; next = next; stage = Awaiting }
      record { job = job; rest = works_of after job.vars; store = store'; next = next'; stage = Going }
  pub sound : IsSound Going job after store' room next'
  pub left : rest_left (works_of after job.vars) ≡ rest_left (works_of before job.vars) - 1
  pub small : next' ≤ 4096

pub supplied : (job : JobParts) (before after : Frames) (store : Trace) (room : Laid) (next : ℕ) (construct : Statement) (written : List Write) →
    IsSound Awaiting job before store room next → next_construct (works_of before job.vars) ≡ Some construct → HasPassed before after → IsStacked after →
    AreAwaited record { job = job; rest = works_of before job.vars; store = store; next = next; stage = Awaiting } written →
    IsSupplied job before after store (noted_all written store) room next (next + statement_sites_in construct)
supplied job before after store room next construct written sound found passed stacked awaited =
    let vars = vars_in before job.vars in
    let arrays = arrays_of (declarations_of job.arrays) in
    let fs = frames_in before in
    let machine : Progress = record { job = job; rest = works_of before job.vars; store = store; next = next; stage = Awaiting } in
    let here = at_construct fs vars construct found in
    let w = before_sites (branch_of (followed construct here.rest)) vars here.after in
    let right : IsRight (job_of job) (w ∷ here.more) store next = subst (λ works. IsRight (job_of job) works store next) here.is sound.kept.0 in
    let nest = is_handed_out machine fs vars construct found in
    let is : written ≡ moved_writes arrays store.cells w.work w.vars
    = subst (λ found. AreAwaitedBy found written) nest awaited ∙ sym (supply_writes arrays store.cells construct vars here.kind) in
    let sites = supply_sites arrays store.cells construct vars here.kind in
    let next_is : next + moved_sites arrays store.cells w ≡ next + statement_sites_in construct = ap (λ n. next + n) sites in
    let rest : works_of after job.vars ≡ moved arrays store.cells w ++ here.more
    = subst (λ works. IsPast arrays store works (works_of after job.vars)) here.is (passed arrays job.vars store) in
    let cells = length_noted written store in
    let roomy = sound.roomy in
    let room_for = right.fit.0.sites in
    let now : IsRight (job_of job) (moved arrays store.cells w ++ here.more) (noted_all written store) (next + statement_sites_in construct)
    = rw is (subst (IsRight (job_of job) (moved arrays store.cells w ++ here.more) (noted_all (moved_writes arrays store.cells w.work w.vars) store)) next_is
    (right_moved (job_of job) w here.more store next right)) in
    record {
      moved = rw (here.is, rest, is, sym next_is) refl;
      sound = record { kept = rw rest now; stacked = stacked; none = sound.none; roomy = omega (arith, cells, roomy) };
      left = ap rest_left rest ∙ left_passed arrays store.cells w here.more construct (subst (λ works. next_construct works ≡ Some construct) here.is found)
          ∙ ap (λ works. rest_left works - 1) (sym here.is);
      small = omega (arith, room_for);
    }

-- The same for the construct that was searched and whose sites were counted.
pub supply_done : (job : JobParts) (before after : Frames) (store : Trace) (room : Laid) (next sites : ℕ) (construct : Option (Bor Stmt)) (written : List Write) →
    IsSound Awaiting job before store room next → IsConstruct construct before → sites ≡ sites_seen construct → HasPassed before after → IsStacked after →
    AreAwaited record { job = job; rest = works_of before job.vars; store = store; next = next; stage = Awaiting } written →
    IsSupplied job before after store (noted_all written store) room next (next + sites)
supply_done job before after store room next sites None written sound found counted passed stacked awaited =
    absurd (false≢true (subst IsSome (sym (found job.vars)) sound.kept.1))
supply_done job before after store room next sites (Some construct) written sound found counted passed stacked awaited =
    let done = supplied job before after store room next (statement_of construct.now) written sound (sym (found job.vars)) passed stacked awaited in
    let small = done.small in
    let exact : sites ≡ statement_sites_in (statement_of construct.now) = omega (arith, counted, small) in
    rw exact done
