-- A pipe as a scheduler.
use Rattle.std.proofs.Common.{◌≡◌, inl, inr, [], Some, None, ap, ◌∙◌, subst}
use Rattle.array_jobs.specs.Jobs.{JobParts}
use Rattle.sched_api.specs.declared.scheduler.Next.{Next}
use Rattle.sched_api.specs.declared.scheduler.Next.TheVariants.{Run, Lend, Nothing}
use Rattle.sched_api.specs.Agenda.{AgendaParts, TakesNext, GivesReady}
use Rattle.step_eval.specs.declared.work.Work.{Work}
use Rattle.step_eval.specs.declared.work.Work.TheVariants.{Begin}
use Rattle.pipe_sched.specs.Slots.{PipeParts}
use Rattle.pipe_sched.specs.Pipes.{GivesAfterFailing}
use Rattle.pipe_sched.specs.Schedulers.{SchedulerParts, Answers}

abbrev pub scheduler_model : PipeParts → AgendaParts Work → SchedulerParts
scheduler_model state agenda = record { state = state; agenda = agenda }

pub answers_begun : (state after : PipeParts) (agenda later : AgendaParts Work) (job : JobParts) → GivesReady agenda None later →
    GivesAfterFailing state (Some job) after → Answers (scheduler_model state agenda) (Run (Begin job)) (scheduler_model after later)
answers_begun state after agenda later job none gives = inr (record {
  none_ready = none.0;
  failed = gives.failed;
  left = gives.left;
  fail = gives.fail;
  answer = (gives.gives, ap (scheduler_model after) none.1);
})

-- If no piece is due, the agenda has at most a wish.
pub answers_rest : (state after : PipeParts) (agenda later last : AgendaParts Work) (next : Next Work) → agenda.unbegun ≡ [] → GivesReady agenda None later →
    GivesAfterFailing state None after → TakesNext later next last → Answers (scheduler_model state agenda) next (scheduler_model after last)
answers_rest state after agenda later last next empty none gives takes =
    let P : AgendaParts Work → Type 0 = λ a. TakesNext a next last in
    by_next next (subst P none.1 takes)
  where
    by_next : (next : Next Work) → TakesNext agenda next last → Answers (scheduler_model state agenda) next (scheduler_model after last)
    by_next (Run work) (inl ready) = let first = ready.first in let nothing = none.0 in absurd (cc (nothing, first))
    by_next (Run work) (inr taken) = let first = taken.first in absurd (cc (empty, first))
    by_next (Lend child) wish = inr (record {
      none_ready = none.0;
      failed = gives.failed;
      left = gives.left;
      fail = gives.fail;
      answer = (gives.gives.0, wish, ap (λ s. scheduler_model s last) gives.gives.1);
    })
    by_next Nothing idle = inr (record {
      none_ready = none.0;
      failed = gives.failed;
      left = gives.left;
      fail = gives.fail;
      answer = (gives.gives.0, idle.0, ap (λ s. scheduler_model s last) gives.gives.1 ∙ ap (scheduler_model gives.left) idle.1);
    })
