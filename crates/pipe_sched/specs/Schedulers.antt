-- The scheduler of a pipeline.
use Rattle.std.specs.Prelude.{◌≡◌, ◌⊎◌, ℕ, ◌*◌, List, [], Result}
use Rattle.sched_api.specs.Wishes.{wishes_after}
use Rattle.sched_api.specs.declared.hearing.Told.{Told}
use Rattle.sched_api.specs.declared.scheduler.Next.{Next}
use Rattle.sched_api.specs.declared.scheduler.Next.TheVariants.{Run, Lend, Nothing}
use Rattle.sched_api.specs.declared.agenda.TheConstants.{MOST_WISHES}
use Rattle.sched_api.specs.Agenda.{AgendaParts, TakesReady, TakesWish, IsIdle, PutsReady}
use Rattle.step_eval.specs.Nests.{NestedParts}
use Rattle.step_eval.specs.declared.work.Work.{Work}
use Rattle.step_eval.specs.declared.work.Work.TheVariants.{Begin, Ready}
use Rattle.pipe_sched.specs.Slots.{PipeParts, NoneIsDue, phases_in, members_in, new_pipe}
use Rattle.pipe_sched.specs.Pipes.{HandsOut, FailWhenDue}

-- The parts of a pipe that contracts see: its pieces, and its lists for harts.
pub record SchedulerParts : Type 0 where
  pub state : PipeParts
  pub agenda : AgendaParts Work

-- The pipe has this state, and is otherwise unchanged.
abbrev pub with_state : SchedulerParts → PipeParts → SchedulerParts
with_state pipe state = record pipe { state = state }

-- The pipe has this agenda, and is otherwise unchanged.
abbrev pub with_agenda : SchedulerParts → AgendaParts Work → SchedulerParts
with_agenda pipe agenda = record pipe { agenda = agenda }

-- The pipe of which no piece was handed out, with room for one ready context of each piece, and for so many wishes.
abbrev pub roomy_scheduler : NestedParts → ℕ → SchedulerParts
roomy_scheduler nested wishes = record {
  state = new_pipe nested;
  agenda = record {
    ready = [];
    room = members_in nested * phases_in nested;
    unbegun = [];
    wishes = record { sites = []; room = wishes };
  };
}

-- The pipe with room for the wishes of as many sites as a plan may have.
abbrev pub new_scheduler : NestedParts → SchedulerParts
new_scheduler nested = roomy_scheduler nested MOST_WISHES

-- The oldest ready context goes on.
abbrev pub GoesOn : SchedulerParts → Next Work → SchedulerParts → Type 0
GoesOn before (Run work) after =
    TakesReady before.agenda work after.agenda × (after ≡ with_agenda before after.agenda)
GoesOn before (Lend child) after = ⊥
GoesOn before Nothing after = ⊥

-- The piece that is due begins. If none is due, the hart is lent to the child of the oldest wish.
abbrev pub BeginsDue : SchedulerParts → Next Work → SchedulerParts → Type 0
BeginsDue before (Run (Begin job)) after =
    HandsOut before.state job after.state × (after ≡ with_state before after.state)
BeginsDue before (Run (Ready context)) after = ⊥
BeginsDue before (Lend child) after =
    NoneIsDue before.state × TakesWish before.agenda child after.agenda
    × (after ≡ with_agenda before after.agenda)
BeginsDue before Nothing after = NoneIsDue before.state × IsIdle before.agenda × (after ≡ before)

-- If no context is ready, pieces that are due fail one after another if an allocation fails, and then the call returns.
pub record AnswersDue (before : SchedulerParts) (next : Next Work)
    (after : SchedulerParts) : Type 0 where
  pub none_ready : before.agenda.ready ≡ []
  pub failed : List (ℕ × ℕ)
  pub left : PipeParts
  pub fail : FailWhenDue before.state failed left
  pub answer : BeginsDue (with_state before left) next after

-- The result of `enter` of a pipe, by its lists.
abbrev pub Answers : SchedulerParts → Next Work → SchedulerParts → Type 0
Answers before next after = GoesOn before next after ⊎ AnswersDue before next after

-- A callback changes the wishes of the pipe, and nothing else.
abbrev pub Hears : SchedulerParts → Told → SchedulerParts → Type 0
Hears before told after =
    after ≡ with_agenda before
    (record before.agenda { wishes = wishes_after told before.agenda.wishes })

-- The pipe takes a context back into its ready list, if there is room.
pub record Takes (before : SchedulerParts) (c : Work) (answer : Result (Unit {0}) Work)
    (after : SchedulerParts) : Type 0 where
  pub ready : PutsReady before.agenda c answer after.agenda
  pub rest : after ≡ with_agenda before after.agenda
