-- The sites of a hart, as contracts see them.
use Rattle.std.specs.Prelude.{◌≡◌, ℕ, ◌<◌, ◌≤◌, List, Option, Some, None, IsSome}
use Rattle.transfer_table.specs.Plan.{Plan}
use Rattle.transfer_table.specs.declared.entry.Entry.{Entry}
use Rattle.hart_port.specs.PortView.{PortView, entered}
use Rattle.sched_api.specs.declared.scheduler.Next.{Next}
use Rattle.sched_api.specs.declared.scheduler.Next.TheVariants.{Run, Lend, Nothing}
use Rattle.hart_work.specs.Accounts.{Account, Follows}

-- What contracts see of a site of type `S`, with jobs of type `J` and constructs of type `N`. A site is owed a job if each other
-- job that it gave this hart came back, as a piece or as a failure. Sites shared with other harts may always count as settled,
-- and then as done.
pub record SiteFacts (S J N : Type 0) : Type 1 where
  -- The construct, if this hart opened the site, and the site's number; 0 is the base.
  pub construct : S → Option N
  pub number : S → ℕ
  -- Each job that the site gave this hart came back to it. The site is owed this job. Its work is done. A job failed.
  pub settled : S → Type 0
  pub owed : S → J → Type 0
  pub over : S → Type 0
  pub failed : S → Type 0
  -- Between these entries the jobs of the site that came back have run, and nothing is stated if one of them failed. The same,
  -- with this job out.
  pub serving : S → Account
  pub lent : S → J → Account
  -- An upper bound of the number of actions that the site gives.
  pub left : S → ℕ

-- What neither a callback of a site nor a site inside it changes.
pub record Stays {S J N : Type 0} (f : SiteFacts S J N) (before after : S) : Type 0 where
  pub construct : f.construct after ≡ f.construct before
  pub number : f.number after ≡ f.number before
  pub settled : f.settled before → f.settled after
  pub owed : (job : J) → f.owed before job → f.owed after job
  pub serving : Follows (f.serving before) (f.serving after)
  pub lent : (job : J) → Follows (f.lent before job) (f.lent after job)
  pub left : f.left after ≤ f.left before

-- The number of remaining actions falls with each action that goes on.
abbrev pub HasNext : {J : Type 0} → ℕ → Next J → ℕ → Type 0
HasNext before (Run job) after = after < before
HasNext before (Lend child) after = after < before
HasNext before Nothing after = after ≤ before

-- If the action is a job, the site is owed it; otherwise the site is still settled.
abbrev pub HasAccount : {J : Type 0} → Type 0 → (J → Type 0) → Next J → Type 0
HasAccount settled owed (Run job) = owed job
HasAccount settled owed (Lend child) = settled
HasAccount settled owed Nothing = settled

-- The site's account waits for a job that it gave. It lends the hart to no child: no other hart opens one.
abbrev pub HasServing : {J : Type 0} → Type 0 → (J → Type 0) → Next J → Type 0
HasServing serving lent (Run job) = lent job
HasServing serving lent (Lend child) = ⊥
HasServing serving lent Nothing = serving

-- A settled site's next action for the hart. There is none for the site's home only if the work is done. The sites of a job are
-- fresh.
pub record Gives {S J N : Type 0} (f : SiteFacts S J N) (fresh : Plan → ℕ → List Entry → J → Type 0)
    (before : S) (next : Next J) (after : S) : Type 0 where
  pub construct : f.construct after ≡ f.construct before
  pub left : HasNext (f.left before) next (f.left after)
  pub account : HasAccount (f.settled after) (f.owed after) next
  pub over : next ≡ Nothing → IsSome (f.construct after) → f.over after
  pub served : Follows (f.serving before) (λ p around start es.
      HasServing (f.serving after p around start es) (λ job.
      f.lent after job p around start es × fresh p around es job) next)

-- The hart is inside, or the port refused it and its owner is unchanged.
abbrev pub HasEntered : {J : Type 0} → PortView → ℕ → Option (Next J) → PortView → Type 0
HasEntered v s (Some next) after = after ≡ entered v s
HasEntered v s None after = after ≡ v
