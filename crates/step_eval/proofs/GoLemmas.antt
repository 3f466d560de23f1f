-- A machine's progress in several steps.
use Rattle.std.proofs.Common.{◌≡◌, ℕ, ◌<◌, Bool, true, false, List, [], ◌∷◌, length, refl, sym, ap, subst, ◌∙◌, arith}
use Rattle.std.proofs.lemmas.Bool.{false≢true}
use Rattle.contexts.specs.declared.machine.Step.{Step}
use Rattle.contexts.specs.declared.machine.Step.TheVariants as step
use Rattle.contexts.specs.Machine.{Steps}
use Rattle.array_tree.specs.Trees.{declarations_of}
use Rattle.array_meaning.specs.Stores.{arrays_of}
use Rattle.array_meaning.specs.Steps.{writes_of}
use Rattle.array_jobs.specs.Works.{steps_of}
use Rattle.array_jobs.specs.Jobs.{JobParts, job_of}
use Rattle.array_eval.specs.Overlays.{Laid}
use Rattle.array_eval.specs.Traces.{Trace}
use Rattle.step_eval.specs.declared.found.Found.{Found}
use Rattle.step_eval.specs.declared.found.Found.TheVariants as found
use Rattle.step_eval.specs.declared.stage.Stage.{Stage}
use Rattle.step_eval.specs.declared.stage.Stage.TheVariants.{Going}
use Rattle.step_eval.specs.declared.frames.Frames.{Frames}
use Rattle.step_eval.specs.Rest.{WorkAt}
use Rattle.step_eval.specs.Moves.{rest_left}
use Rattle.step_eval.specs.Machines.{Progress, IsRight, Advances, HasMoved, RunsTo, stands, moves, skims, HasGone, HasGoneOn, to_do, next_nest}
use Rattle.step_eval.specs.Inside.Frames.{works_of, IsStacked, Ran}
use Rattle.step_eval.specs.Inside.Parts.{IsSound, while_going}
use Rattle.step_eval.proofs.LeftLemmas.{left_dropped}
use Rattle.step_eval.proofs.MoveLemmas.{right_run}
use Rattle.step_eval.proofs.MachineLemmas.{length_noted}

-- A run to a state and a run from it are one run.
pub runs_further : (first mid last : Progress) → RunsTo first mid → RunsTo mid last → RunsTo first last
runs_further first mid last a stands = a
runs_further first mid last a (moves m l b going none unreported moved) = moves m l (runs_further first mid m a b) going none unreported moved
runs_further first mid last a (skims m l b going whole) = skims m l (runs_further first mid m a b) going whole

-- One step is progress.
pub gone_step : (before after : Progress) (s : Step Found) → Advances before s after → Steps (to_do before) s (to_do after) → HasGone before s after
gone_step before after step.More advances steps = moved before.rest advances.3
  where
    moved : (works : List WorkAt) → HasMoved works before after → HasGone before step.More after
    moved [] m = absurd m
    moved (w ∷ more) m = (ap (λ x. x.job) m, ap (λ x. x.stage) m, steps.2, moves before after stands advances.0 advances.1 advances.2 advances.3)
gone_step before after (step.Nest (found.Pass first end)) advances steps = moved before.rest advances.2
  where
    moved : (works : List WorkAt) → HasMoved works before after → HasGone before (step.Nest (found.Pass first end)) after
    moved [] m = absurd m
    moved (w ∷ more) m = (
      ap (λ x. x.job) m,
      ap (λ x. x.stage) m,
      record { before = before; ran = stands; stage = advances.0; reported = advances.1; moved = advances.2 },
      steps.1,
    )
gone_step before after (step.Nest (found.Nest nested)) advances steps =
    let is = advances.2 in
    let same : record after { stage = Going } ≡ before = ap (λ (x : Progress). record x { stage = Going }) is ∙ ap (λ (g : Stage). record before { stage = g }) (sym advances.0) in
    (ap (λ x. x.job) is, ap (λ x. x.stage) is, ap next_nest is ∙ advances.1, steps.1, subst (RunsTo before) (sym same) stands)
gone_step before after step.Finished advances steps =
    let is = advances.2 in
    (ap (λ x. x.job) is, record { stage = ap (λ x. x.stage) is ∙ advances.0; rest = ap (λ x. x.rest) is ∙ advances.1 }, subst (RunsTo before) (sym is) stands)
gone_step before after step.NoMemory advances steps = advances

-- Progress after progress is progress.
pub gone_further : (first between last : Progress) (s : Step Found) → HasGone first step.More between → HasGone between s last → HasGone first s last
gone_further first between last step.More a b =
    let fewer = a.2 in let less = b.2 in
    (b.0 ∙ a.0, b.1, omega (arith, fewer, less), runs_further first between last a.3 b.3)
gone_further first between last (step.Nest (found.Pass start end)) a b =
    let fewer = a.2 in let less = b.3 in
    let passed = b.2 in (
      b.0 ∙ a.0,
      b.1,
      record { before = passed.before; ran = runs_further first between passed.before a.3 passed.ran; stage = passed.stage; reported = passed.reported; moved = passed.moved },
      omega (arith, fewer, less),
    )
gone_further first between last (step.Nest (found.Nest nested)) a b =
    let fewer = a.2 in let less = b.3 in
    (b.0 ∙ a.0, b.1, b.2, omega (arith, fewer, less), runs_further first between (record last { stage = Going }) a.3 b.4)
gone_further first between last step.Finished a b = (b.0 ∙ a.0, b.1, runs_further first between last a.3 b.2)
gone_further first between last step.NoMemory a b = b

-- A machine that was unchanged and then progressed has progressed.
pub gone_still : (before between after : Progress) (ran : Bool) (s : Step Found) → ran ≡ false → HasGoneOn ran before between → HasGone between s after → HasGone before s after
gone_still before between after true s is still gone = absurd (false≢true (sym is))
gone_still before between after false s is still gone = subst (λ m. HasGone m s after) still gone

-- ---- a loop that is run at once

-- A machine whose first work was run at once has progressed; one whose work wasn't is unchanged.
pub gone_through : (job : JobParts) (before after : Frames) (store store' : Trace) (next : ℕ) (ran : Bool) →
    Ran (arrays_of (declarations_of job.arrays)) ran (works_of before job.vars) store (works_of after job.vars) store' →
    HasGoneOn ran (while_going job (works_of before job.vars) store next) (while_going job (works_of after job.vars) store' next)
gone_through job before after store store' next false done = rw (done.0, done.1) refl
gone_through job before after store store' next true done = run (works_of before job.vars) done
  where
    run : (works : List WorkAt) → Ran (arrays_of (declarations_of job.arrays)) true works store (works_of after job.vars) store' →
        HasGoneOn true (while_going job works store next) (while_going job (works_of after job.vars) store' next)
    run [] done = absurd done.0
    run (w ∷ more) done =
        let m = while_going job (w ∷ more) store next in
        let is : works_of after job.vars ≡ more = done.1.0 in
        let fewer : rest_left (works_of after job.vars) < rest_left (w ∷ more) = rw is (left_dropped w more) in
        (refl, refl, fewer, skims m (while_going job (works_of after job.vars) store' next) stands refl (done.0, rw (done.1.0, done.1.1) refl))

right_through : (job : JobParts) (works rest : List WorkAt) (store store' : Trace) (next : ℕ) → IsRight (job_of job) works store next →
    Ran (arrays_of (declarations_of job.arrays)) true works store rest store' → IsRight (job_of job) rest store' next
right_through job [] rest store store' next right done = absurd done.0
right_through job (w ∷ more) rest store store' next right done = rw (done.1.0, done.1.1) (right_run (job_of job) w more store next done.0 right)

cells_through : (job : JobParts) (works rest : List WorkAt) (store store' : Trace) →
    Ran (arrays_of (declarations_of job.arrays)) true works store rest store' → length store'.cells ≡ length store.cells
cells_through job [] rest store store' done = absurd done.0
cells_through job (w ∷ more) rest store store' done =
    let arrays = arrays_of (declarations_of job.arrays) in
    ap (λ t. length t.cells) done.1.1 ∙ length_noted (writes_of arrays (steps_of w.work w.vars) store.cells) store

-- A machine stays sound if its first work is run at once, or not.
pub sound_through : (job : JobParts) (before after : Frames) (store store' : Trace) (room : Laid) (next : ℕ) (ran : Bool) →
    IsSound Going job before store room next →
    Ran (arrays_of (declarations_of job.arrays)) ran (works_of before job.vars) store (works_of after job.vars) store' → IsStacked after →
    IsSound Going job after store' room next
sound_through job before after store store' room next false sound done stacked = record {
  kept = rw (done.0, done.1) sound.kept;
  stacked = stacked;
  none = sound.none;
  roomy = rw done.1 sound.roomy;
}
sound_through job before after store store' room next true sound done stacked =
    let cells = cells_through job (works_of before job.vars) (works_of after job.vars) store store' done in
    let roomy = sound.roomy in
    record {
      kept = right_through job (works_of before job.vars) (works_of after job.vars) store store' next sound.kept done;
      stacked = stacked;
      none = sound.none;
      roomy = omega (arith, cells, roomy);
    }
