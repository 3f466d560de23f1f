-- The result of a look under the lock of a shared team, and the result of `enter` that follows from it.
use Rattle.std.specs.Prelude.{◌≡◌, ◌⊎◌, Option, Some, None}
use Rattle.sched_api.specs.declared.scheduler.Next.{Next}
use Rattle.sched_api.specs.declared.scheduler.Next.TheVariants.{Run, Lend, Nothing}
use Rattle.loop_team.specs.declared.found.Found.{Found}
use Rattle.loop_team.specs.declared.found.Found.TheVariants as found
use Rattle.step_eval.specs.declared.work.Work.{Work}

-- A look for a ready context found the cause of this result.
abbrev pub ReportsReady : Found → Option (Next Work) → Type 0
ReportsReady what None = Unit {0}
ReportsReady what (Some (Run work)) = what ≡ found.Work
ReportsReady what (Some (Lend child)) = ⊥
ReportsReady what (Some Nothing) = what ≡ found.HandedOut

-- A look after the last member was claimed found the cause of this result.
abbrev pub ReportsRest : Found → Option (Next Work) → Type 0
ReportsRest what None = Unit {0}
ReportsRest what (Some (Run work)) = what ≡ found.Work
ReportsRest what (Some (Lend child)) = what ≡ found.Wish
ReportsRest what (Some Nothing) = (what ≡ found.HandedOut) ⊎ (what ≡ found.Idle)
