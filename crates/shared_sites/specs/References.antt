-- The schedulers for which a hart has a deque or claim counters.
use Rattle.std.specs.Prelude.{◌≡◌, ◌<◌, ℕ}
use Rattle.deque_rows.specs.Rows.{Identity, IsLevel}
use Rattle.claim_words.specs.Seats.{SeatIdentity, IsOf}
use Rattle.step_eval.specs.Nests.{NestedParts}
use Rattle.loop_team.specs.Rows.{RowsFit}
use Rattle.shared_sites.specs.ClaimRows.{IsFirstRow}
use Rattle.shared_sites.specs.declared.scheduler_ref.PoolRef.{PoolRef}
use Rattle.shared_sites.specs.declared.scheduler_ref.TeamRef.{TeamRef}
use Rattle.shared_sites.specs.declared.scheduler_ref.SchedulerRef.{SchedulerRef}
use Rattle.shared_sites.specs.declared.scheduler_ref.SchedulerRef.TheVariants.{Base, Pool, Team, Pipe, NoScheduler}
use Rattle.shared_sites.specs.declared.shared_site.SharedSite.{SharedSite}
use Rattle.shared_sites.specs.declared.shared_site.SharedSite.TheVariants as shared
use Rattle.shared_sites.specs.Identities.{HartLocalIdentities}

-- There is a deque of this home and level.
abbrev pub PoolFits : Identity → PoolRef → Type 0
PoolFits k pool = IsLevel pool.level × (pool.home < k.harts)

-- The seat is of the team's claim table, which has a counter for each phase.
abbrev pub TeamFits : SeatIdentity → TeamRef → Type 0
TeamFits k team = IsOf team.claims.now k
    × RowsFit team.claims.now.counts.items team.row team.shared.now

-- The reference to a scheduler fits the hart-local state: a pool its deques, and a team its seat.
abbrev pub Fits : HartLocalIdentities → SchedulerRef → Type 0
Fits k (Base base) = Unit {0}
Fits k (Pool pool) = PoolFits k.rows pool
Fits k (Team team) = TeamFits k.seat team
Fits k (Pipe pipe) = Unit {0}
Fits k NoScheduler = Unit {0}

-- The claim table has no counters for the team.
abbrev pub HasNoCounters : HartLocalIdentities → NestedParts → Type 0
HasNoCounters k team = (row : ℕ) → IsFirstRow k.shapes team row → RowsFit k.counts row team → ⊥

-- The reference is to this scheduler of a site of this level. There is none only for a pool without a deque, for a team without
-- claim counters, and for `Alone`.
abbrev pub IsRefTo : HartLocalIdentities → SharedSite → ℕ → SchedulerRef → Type 0
IsRefTo k (shared.Pool home pool) level (Pool found) =
    (found.shared.now ≡ pool) × (found.home ≡ home) × (found.level ≡ level)
IsRefTo k (shared.Pool home pool) level NoScheduler = IsLevel level → home < k.rows.harts → ⊥
IsRefTo k (shared.Team team) level (Team found) = found.shared.now ≡ team
IsRefTo k (shared.Team team) level NoScheduler = HasNoCounters k team
IsRefTo k (shared.Pipe pipe) level (Pipe found) = found.now ≡ pipe
IsRefTo k shared.Alone level NoScheduler = Unit {0}
IsRefTo k site level found = ⊥

-- The site of the scheduler; the base for `Alone`.
abbrev pub site_at : SharedSite → ℕ
site_at (shared.Pool home pool) = pool.site
site_at (shared.Team team) = team.site
site_at (shared.Pipe pipe) = pipe.site
site_at shared.Alone = 0
