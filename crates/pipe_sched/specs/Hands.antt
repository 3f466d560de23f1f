-- The calls of a hart's hand on a shared pipe. A look is one read of the pipe under its lock.
use Rattle.std.specs.Prelude.{◌≡◌, ◌⊎◌, ℕ, Option, Some, None, Result, Err}
use Rattle.array_jobs.specs.PieceParts.{PieceParts}
use Rattle.hart_port.specs.Count.{Rose}
use Rattle.join_book.specs.declared.book.Deposit.{Deposit}
use Rattle.join_book.specs.declared.book.Deposit.TheVariants.{Kept, Double, Stranger}
use Rattle.sched_api.specs.declared.hearing.Told.{Told}
use Rattle.sched_api.specs.declared.scheduler.Next.{Next}
use Rattle.sched_api.specs.declared.scheduler.Next.TheVariants.{Run, Lend, Nothing}
use Rattle.pipe_sched.specs.declared.hand.PipeHand.{PipeHand}
use Rattle.pipe_sched.specs.declared.looks.Found.{Found}
use Rattle.pipe_sched.specs.declared.looks.Found.TheVariants as found
use Rattle.pipe_sched.specs.declared.looks.Looks.{Looks}
use Rattle.step_eval.specs.declared.work.Work.{Work}
use Rattle.step_eval.specs.declared.work.Work.TheVariants.{Begin, Ready}
use Rattle.pipe_sched.specs.Slots.{IsFull, MayFail, failed_pipe}
use Rattle.pipe_sched.specs.Pipes.{Deposits}
use Rattle.pipe_sched.specs.Schedulers.{SchedulerParts, Answers, Hears, Takes, with_state}

-- Under the lock, which has the pipe until it is handed out --

-- One more look, with this result.
abbrev pub Sees : Looks → Found → Looks → Type 0
Sees before what after = Rose before.count after.count × (after.last ≡ Some what)

-- The kind of a look's result, by the action that the pipe returns.
abbrev pub found_in : Next Work → Found
found_in (Run (Begin job)) = found.Due job.place job.phase
found_in (Run (Ready context)) = found.Ready
found_in (Lend child) = found.Wish child
found_in Nothing = found.NoneLeft

-- A look finds the action that the pipe has for the hart, or that the pipe was handed out.
abbrev pub found_by : Option SchedulerParts → Next Work → Found
found_by None next = found.HandedOut
found_by (Some pipe) next = found_in next

-- The pipe returns its action for the hart, and `Nothing` if it was handed out.
abbrev pub AnswersUnder : Option SchedulerParts → Next Work → Option SchedulerParts → Type 0
AnswersUnder None next after = (next ≡ Nothing) × (after ≡ None)
AnswersUnder (Some pipe) next None = ⊥
AnswersUnder (Some pipe) next (Some after) = Answers pipe next after

-- The pipe keeps a piece or returns it. A pipe that was handed out treats each piece as a stranger.
abbrev pub DepositsUnder : Option SchedulerParts → PieceParts → Deposit → Option SchedulerParts → Type 0
DepositsUnder None piece answer after = (answer ≡ Stranger piece) × (after ≡ None)
DepositsUnder (Some pipe) piece answer None = ⊥
DepositsUnder (Some pipe) piece answer (Some after) =
    Deposits pipe.state piece answer after.state × (after ≡ with_state pipe after.state)

-- The piece fails if it may fail. Otherwise nothing changes.
abbrev pub FailsUnder : Option SchedulerParts → ℕ → ℕ → Option SchedulerParts → Type 0
FailsUnder None j k after = after ≡ None
FailsUnder (Some pipe) j k after =
    (MayFail pipe.state j k × (after ≡ Some (with_state pipe (failed_pipe pipe.state j k))))
    ⊎ ((¬ MayFail pipe.state j k) × (after ≡ Some pipe))

-- The pipe gets the callback.
abbrev pub HearsUnder : Option SchedulerParts → Told → Option SchedulerParts → Type 0
HearsUnder None told after = after ≡ None
HearsUnder (Some pipe) told None = ⊥
HearsUnder (Some pipe) told (Some after) = Hears pipe told after

-- The pipe takes a ready context or returns it. A pipe that was handed out returns it.
abbrev pub TakesUnder : Option SchedulerParts → Work → Result (Unit {0}) Work
    → Option SchedulerParts → Type 0
TakesUnder None c answer after = (answer ≡ Err c) × (after ≡ None)
TakesUnder (Some pipe) c answer None = ⊥
TakesUnder (Some pipe) c answer (Some after) = Takes pipe c answer after

-- The pipe is handed out if it is full. Otherwise nothing changes.
abbrev pub TakesFull : Option SchedulerParts → Option SchedulerParts → Option SchedulerParts → Type 0
TakesFull None taken after = (taken ≡ None) × (after ≡ None)
TakesFull (Some pipe) None after = (¬ IsFull pipe.state) × (after ≡ Some pipe)
TakesFull (Some pipe) (Some taken) after =
    IsFull pipe.state × (taken ≡ pipe) × (after ≡ None)

-- What is known without what the lock has --

-- A piece is kept, or is returned.
abbrev pub GivesBack : PieceParts → Deposit → Type 0
GivesBack piece Kept = Unit {0}
GivesBack piece (Double back) = back ≡ piece
GivesBack piece (Stranger back) = back ≡ piece

-- The hand's last look had this result.
abbrev pub HasFound : {R : Type 0} → PipeHand R → Found → PipeHand R → Type 0
HasFound before what after = (after.shared ≡ before.shared) × Sees before.looks what after.looks

-- `enter` returns the action that a look of the call found, or `Nothing` because the pipe was handed out.
abbrev pub AnswersHand : {R : Type 0} → PipeHand R → Next Work → PipeHand R → Type 0
AnswersHand before next after =
    HasFound before (found_in next) after
    ⊎ ((next ≡ Nothing) × HasFound before found.HandedOut after)
