-- The scheduler of one `team`.
use Rattle.std.specs.Prelude.{◌≡◌, ◌⊎◌, ℕ, suc, ◌<◌, [], map, drop, true, false, Bool, Option, Some, None, Result, Ok, Err, List}
use Rattle.array_tree.specs.Trees.{statement_of}
use Rattle.array_meaning.specs.Stores.{Write}
use Rattle.array_eval.specs.Overlays.{Laid}
use Rattle.array_eval.specs.Traces.{Trace}
use Rattle.array_jobs.specs.Jobs.{JobParts, job_of}
use Rattle.array_jobs.specs.PieceParts.{PieceParts}
use Rattle.join_book.specs.Books.{BookParts, Open, IsMarked, IsFull, open_book}
use Rattle.lithe_barrier.specs.Arrivals.{Arrives, Fills}
use Rattle.lithe_barrier.specs.declared.state.Arrival.{Arrival}
use Rattle.lithe_barrier.specs.declared.state.Arrival.TheVariants.{Kept, Opened, Stranger}
use Rattle.sched_api.specs.Wishes.{wishes_after}
use Rattle.sched_api.specs.declared.hearing.Told.{Told}
use Rattle.sched_api.specs.declared.scheduler.Next.{Next}
use Rattle.sched_api.specs.declared.agenda.TheConstants.{MOST_WISHES}
use Rattle.sched_api.specs.Agenda.{AgendaParts, TakesNext, PutsReady, GivesReady, GivesUnbegun}
use Rattle.step_eval.specs.Inside.Computed.{HasReached}
use Rattle.step_eval.specs.Nests.{NestedParts, nested_of, phases_of, jobs_in, IsFitNest}
use Rattle.step_eval.specs.Phases.{phase_writes, store_before}
use Rattle.step_eval.specs.Shapes.{members_of}
use Rattle.loop_team.specs.declared.team.Phase.{Phase}
use Rattle.step_eval.specs.declared.work.Work.{Work}
use Rattle.step_eval.specs.declared.work.Work.TheVariants.{Begin}

-- The parts of a team that contracts see.
pub record TeamParts : Type 0 where
  -- Its construct, with the variables and the store before it.
  pub nested : NestedParts
  -- Its lists for harts.
  pub agenda : AgendaParts Work
  -- The number of phases that have opened.
  pub opened : ℕ
  -- The slots of the current phase, or of the last one.
  pub barrier : BookParts
  pub failed : Bool

-- The number of phases of a construct.
abbrev pub phases_in : NestedParts → ℕ
phases_in nested = phases_of (statement_of nested.construct)

-- The number of members of a construct.
abbrev pub members_in : NestedParts → ℕ
members_in nested = members_of (statement_of nested.construct)

-- The writes of a phase from the store that the earlier phases leave.
abbrev pub writes_in : NestedParts → ℕ → List Write
writes_in nested phase =
    phase_writes (nested_of nested) phase (store_before (nested_of nested) phase)

-- The jobs of the members in a phase, from the store that the earlier phases leave.
pub record AreJobsIn (nested : NestedParts) (phase : ℕ) (jobs : List JobParts) : Type 0 where
  pub there : phase < phases_in nested
  pub same : map job_of jobs
      ≡ jobs_in (nested_of nested) phase (store_before (nested_of nested) phase)

-- The last phase has opened, or the team is failed.
abbrev pub IsOver : TeamParts → Type 0
IsOver team = (team.opened ≡ phases_in team.nested) ⊎ (team.failed ≡ true)

-- The team before its first phase, whose members have these jobs, with room for so many wishes.
abbrev pub roomy_team : NestedParts → List JobParts → ℕ → TeamParts
roomy_team nested jobs wishes = record {
  nested = nested;
  agenda = record {
    ready = [];
    room = members_in nested;
    unbegun = map Begin jobs;
    wishes = record { sites = []; room = wishes };
  };
  opened = 0;
  barrier = open_book jobs;
  failed = false;
}

-- The team with room for so many wishes, before its first phase.
pub record IsRoomy (nested : NestedParts) (wishes : ℕ) (team : TeamParts) : Type 0 where
  pub jobs : AreJobsIn nested 0 team.barrier.jobs
  pub rest : team ≡ roomy_team nested team.barrier.jobs wishes

-- The team with room for the wishes of as many sites as a plan may have.
abbrev pub IsNew : NestedParts → TeamParts → Type 0
IsNew nested team = IsRoomy nested MOST_WISHES team

-- One more phase has opened.
abbrev pub opened_team : TeamParts → TeamParts
opened_team team = record team { opened = suc team.opened }

-- The team with the members of a phase, with these jobs, instead of any that are left to begin.
abbrev pub with_phase : TeamParts → List JobParts → TeamParts
with_phase team jobs = record team {
  agenda = record team.agenda { unbegun = map Begin jobs };
  barrier = open_book jobs;
}

-- The team has this barrier, and is otherwise unchanged.
abbrev pub with_barrier : TeamParts → BookParts → TeamParts
with_barrier team barrier = record team { barrier = barrier }

-- The team has this agenda, and is otherwise unchanged.
abbrev pub with_agenda : TeamParts → AgendaParts Work → TeamParts
with_agenda team agenda = record team { agenda = agenda }

-- The team is failed, and is otherwise unchanged.
abbrev pub failed_team : TeamParts → TeamParts
failed_team team = record team { failed = true }

-- A team whose phase has opened is done, or its next phase can be begun.
pub record GoesOn (team after : TeamParts) : Type 0 where
  pub over : IsOver team → after ≡ team
  pub next : ¬ IsOver team
      → AreJobsIn team.nested team.opened after.barrier.jobs
      × (after ≡ with_phase team after.barrier.jobs)

-- The piece was the last one that the barrier waited for, and these are its slots then.
pub record Opens (before : TeamParts) (piece : PieceParts) (written : Laid)
    (full : BookParts) : Type 0 where
  pub arrives : Arrives before.barrier piece (Opened written) full
  pub writes : written.pairs ≡ writes_in before.nested before.opened

-- The team goes on without the next phase, for which an allocation failed.
pub record FailsToGoOn (before : TeamParts) (piece : PieceParts) (full : BookParts)
    (after : TeamParts) : Type 0 where
  pub fills : Fills before.barrier piece full
  pub none_left : IsFull full
  pub wanted : ¬ IsOver (opened_team (with_barrier before full))
  pub failed : after ≡ failed_team (opened_team (with_barrier before full))

-- A piece has this result and leaves this team: the result is the barrier's, and if the barrier opens the team goes on. An
-- allocation failure occurs only if the next phase is to begin, and fails the team.
abbrev pub MovesOn : {E : Type 0} → TeamParts → PieceParts → Result Arrival E → TeamParts → Type 0
MovesOn before piece (Ok Kept) after =
    Arrives before.barrier piece Kept after.barrier × (after ≡ with_barrier before after.barrier)
MovesOn before piece (Ok (Opened written)) after =
    (full : BookParts) × Opens before piece written full
    × GoesOn (opened_team (with_barrier before full)) after
MovesOn before piece (Ok (Stranger back)) after =
    Arrives before.barrier piece (Stranger back) before.barrier × (after ≡ before)
MovesOn before piece (Err refused) after = (full : BookParts) × FailsToGoOn before piece full after

-- The members that aren't begun are the last ones, in the order of their indices.
abbrev pub AreInOrder : TeamParts → Type 0
AreInOrder team = (begun : ℕ) × (team.agenda.unbegun ≡ drop begun (map Begin team.barrier.jobs))

-- The call `enter` of a team returns the next action of its agenda, and changes only its agenda. So the member that it hands
-- out is the lowest that isn't begun.
pub record Answers (before : TeamParts) (next : Next Work) (after : TeamParts) : Type 0 where
  pub handed : TakesNext before.agenda next after.agenda
  pub rest : after ≡ with_agenda before after.agenda
  pub in_order : AreInOrder before

-- A callback changes the wishes of the team, and nothing else.
abbrev pub Hears : TeamParts → Told → TeamParts → Type 0
Hears before told after =
    after ≡ with_agenda before
    (record before.agenda { wishes = wishes_after told before.agenda.wishes })

-- The team takes a context back into its ready list, if there is room.
pub record Takes (before : TeamParts) (c : Work) (answer : Result (Unit {0}) Work)
    (after : TeamParts) : Type 0 where
  pub ready : PutsReady before.agenda c answer after.agenda
  pub rest : after ≡ with_agenda before after.agenda

-- A hand takes a ready context, or a member, by itself.
pub record TakesReady (before : TeamParts) (answer : Option Work)
    (after : TeamParts) : Type 0 where
  pub given : GivesReady before.agenda answer after.agenda
  pub rest : after ≡ with_agenda before after.agenda

-- The lowest member that hasn't begun is taken out, if there is one.
abbrev pub TakesMember : TeamParts → Option JobParts → TeamParts → Type 0
TakesMember before (Some job) after =
    GivesUnbegun before.agenda (Some (Begin job)) after.agenda
    × (after ≡ with_agenda before after.agenda)
TakesMember before None after = GivesUnbegun before.agenda None after.agenda × (after ≡ before)

-- The team's invariant: the store has the writes of the opened phases; while a slot is free, the slots are those of the next
-- phase's jobs; and the members are handed out in order.
pub record IsKept (team : TeamParts) (store : Trace) : Type 0 where
  pub fit : IsFitNest (nested_of team.nested)
  pub reached : HasReached (nested_of team.nested) team.opened store
  pub running : (place : ℕ) → IsMarked team.barrier place Open
      → AreJobsIn team.nested team.opened team.barrier.jobs
  pub in_order : AreInOrder team

-- A phase that is to begin: no piece has come, and no member has begun.
pub record IsPhase (nested : NestedParts) (phase : ℕ) (next : Phase) : Type 0 where
  pub jobs : AreJobsIn nested phase next.barrier.jobs
  pub barrier : next.barrier ≡ open_book next.barrier.jobs
  pub unbegun : next.unbegun.items ≡ map Begin next.barrier.jobs
