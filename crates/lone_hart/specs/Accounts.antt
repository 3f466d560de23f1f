-- The jobs that a site has handed out, and those that came back.
use Rattle.std.specs.Prelude.{◌≡◌, ℕ, suc, ◌<◌, ◌≤◌, [], length, map, drop, slice_get, Some}
use Rattle.array_jobs.specs.Jobs.{JobParts}
use Rattle.join_book.specs.Books.{BookParts, Open, IsMarked}
use Rattle.sched_api.specs.Agenda.{AgendaParts}

-- The state of a book of jobs and an agenda: no context is ready, the jobs before index `begun` were handed out, and exactly
-- those before index `done` came back, as a piece or as a failure.
pub record Stands {C : Type 0} (begin : JobParts → C) (book : BookParts) (agenda : AgendaParts C)
    (done begun : ℕ) : Type 0 where
  pub none_ready : agenda.ready ≡ []
  pub unbegun : agenda.unbegun ≡ drop begun (map begin book.jobs)
  pub back : (i : ℕ) → i < done → ¬ IsMarked book i Open
  pub away : (i : ℕ) → done ≤ i → i < length book.jobs → IsMarked book i Open
  pub each : length book.places ≡ length book.jobs
  pub own : (i : ℕ) (job : JobParts) → slice_get book.jobs i ≡ Some job → job.place ≡ i

-- All jobs that were handed out came back.
abbrev pub AllCameBack : {C : Type 0} → (JobParts → C) → BookParts → AgendaParts C → Type 0
AllCameBack begin book agenda = (k : ℕ) × Stands begin book agenda k k

-- All jobs that were handed out came back, except this one, which was handed out last.
abbrev pub AllButOneCameBack : {C : Type 0} → (JobParts → C) → BookParts → AgendaParts C
    → JobParts → Type 0
AllButOneCameBack begin book agenda job =
    (k : ℕ) × (slice_get book.jobs k ≡ Some job) × Stands begin book agenda k (suc k)
