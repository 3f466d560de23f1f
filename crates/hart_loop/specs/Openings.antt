-- The sites that a hart opens for all harts.
use Rattle.std.specs.Prelude.{◌≡◌, ◌≢◌, ℕ, map, option_map, IfSome, Option, Some, None}
use Rattle.array_tree.specs.Trees.{statement_of}
use Rattle.array_jobs.specs.Jobs.{job_of}
use Rattle.step_eval.specs.Nests.{NestedParts, nested_of, phases_of, jobs_in, IsFitNest}
use Rattle.forkjoin_sched.specs.Shared.{SharedParts}
use Rattle.shared_sites.specs.declared.shared_site.SharedSite.{SharedSite}
use Rattle.pipe_sched.specs.Pipes.{IsUncrossed}
use Rattle.shared_sites.specs.declared.shared_site.SharedSite.TheVariants.{Pool, Team, Pipe, Alone}
use Rattle.shared_sites.specs.declared.scheduler_ref.SchedulerRef.{SchedulerRef}
use Rattle.shared_sites.specs.declared.scheduler_ref.SchedulerRef.TheVariants.{NoScheduler}
use Rattle.shared_sites.specs.Identities.{HartLocalIdentities}
use Rattle.shared_sites.specs.References.{Fits, IsRefTo}
use Rattle.hart_loop.specs.declared.hart_site.Placement.{Placement}
use Rattle.hart_loop.specs.declared.hart_site.Placement.TheVariants.{Base, Published, Kept}
use Rattle.hart_loop.specs.declared.hart_site.HartSite.{HartSite}

-- A shared pool has the jobs of the `par`.
pub record IsSharedPoolOf (nested : NestedParts) (shared : SharedParts) : Type 0 where
  pub fit : IsFitNest (nested_of nested)
  pub one_phase : phases_of (statement_of nested.construct) ≡ 1
  pub jobs : map job_of shared.jobs ≡ jobs_in (nested_of nested) 0 nested.store

-- A scheduler was made for the construct, and a pipe only if no two of its pieces cross.
abbrev pub IsMadeOf : NestedParts → SharedSite → Type 0
IsMadeOf nested (Pool home shared) = IsSharedPoolOf nested shared
IsMadeOf nested (Team shared) = shared ≡ nested
IsMadeOf nested (Pipe shared) = (shared ≡ nested) × IsUncrossed (nested_of nested)
IsMadeOf nested Alone = Unit {0}

-- The scheduler of a placement's site; none for the base.
abbrev pub kept_in : {S : Type 0} → Placement S → Option S
kept_in (Base base) = None
kept_in (Published shared) = Some shared.now
kept_in (Kept shared) = Some shared.value

-- The placement was made for the construct; that of the base was made for none.
abbrev pub IsMadeFor : Option SharedSite → NestedParts → Type 0
IsMadeFor None nested = ⊥
IsMadeFor (Some shared) nested = IsMadeOf nested shared

-- The scheduler of a site that the hart opened was made for its construct.
abbrev pub IsOpened : {S : Type 0} → (S → SharedSite) → HartSite S → Type 0
IsOpened held site = IfSome site.opened (IsMadeFor (option_map held (kept_in site.placement)))

-- The reference is to the scheduler of a site of this level, and the hart has a hand on the scheduler by it.
pub record IsHand (k : HartLocalIdentities) (shared : SharedSite) (level : ℕ) (found : SchedulerRef) : Type 0 where
  pub fits : Fits k found
  pub finds : IsRefTo k shared level found
  pub some : found ≢ NoScheduler

-- The hart has a hand on the scheduler of a site of this level.
abbrev pub HasHand : HartLocalIdentities → SharedSite → ℕ → Type 0
HasHand k shared level = (found : SchedulerRef) × IsHand k shared level found
