-- How a hart of several begins and ends a run. Definitions and lemmas are about lists of anything with a hart's view: seats,
-- ports, and harts with ports.
use Rattle.std.specs.Prelude.{◌≡◌, ◌<◌, ℕ, true, false, List, length, slice_index_or, Option, Some, IfSome, All}
use Rattle.std.specs.List.{AllZip}
use Rattle.transfer_table.specs.Plan.{Plan, IsSite, parent}
use Rattle.hart_port.specs.PortView.{PortView, is_in}
use Rattle.site_steps.specs.Back.{IsSettled}
use Rattle.array_jobs.specs.Jobs.{JobParts}
use Rattle.array_jobs.specs.PieceParts.{PieceParts}
use Rattle.shared_sites.specs.Identities.{HartLocalIdentities}
use Rattle.hart_loop.specs.declared.hart.Hart.{Hart}

-- The hart is in the base, and the home of no site; others may share the table.
pub record StartsIn (p : Plan) (v : PortView) : Type 0 where
  pub plan : v.plan ≡ p
  pub shared : v.alone ≡ false
  pub base : v.owner ≡ 0
  pub inner : IsSettled v

-- The view is that of this hart, of the table of this name and of the plan.
pub record IsAt (name : List ℕ) (p : Plan) (h : ℕ) (v : PortView) : Type 0 where
  pub plan : v.plan ≡ p
  pub hart : v.hart ≡ h
  pub table : v.table ≡ name

-- The view is that of a hart of the same number, of the same table and plan.
pub record IsSameHart (v after : PortView) : Type 0 where
  pub plan : after.plan ≡ v.plan
  pub hart : after.hart ≡ v.hart
  pub table : after.table ≡ v.table

-- The hart has seen each top site gone.
abbrev pub TopSitesSeenGone : PortView → Type 0
TopSitesSeenGone v = (s : ℕ) → IsSite v.plan s → parent v.plan s ≡ 0 → is_in v.gone s ≡ true

-- The hart has done its part of a run, with the hart-local state that it was lent. If it had a job, it has seen each top site gone, and
-- its piece is that job's, if there is one.
pub record HasRun (v : PortView) (hart_local : HartLocalIdentities) (job : Option JobParts) (after : PortView)
    (hart_local' : HartLocalIdentities) (made : Option PieceParts) : Type 0 where
  pub same : IsSameHart v after
  pub lent : hart_local' ≡ hart_local
  pub gone : (j : JobParts) → job ≡ Some j → TopSitesSeenGone after
  pub piece : (j : JobParts) → job ≡ Some j → IfSome made (λ k. k.job ≡ j)

-- ---- about lists of anything that `seen` views as a hart: a seat, a port, or a hart with its port

-- Each is in the base, and the home of no site.
abbrev pub AllStart : {Q : Type 0} → (Q → PortView) → Plan → List Q → Type 0
AllStart seen p = All (λ q. StartsIn p (seen q))

-- Each is the same hart.
abbrev pub AreSame : {Q : Type 0} → (Q → PortView) → List Q → List Q → Type 0
AreSame seen = AllZip (λ before after. IsSameHart (seen before) (seen after))

-- The harts have done their parts, on the table of this name: hart h is at index h.
pub record AreBack {Q : Type 0} (seen : Q → PortView) (name : List ℕ) (p : Plan)
    (qs : List Q) : Type 0 where
  pub count : length qs ≡ p.harts
  pub each : (h : ℕ) (d : Q) → h < length qs → IsAt name p h (seen (slice_index_or qs h d))

-- ---- about harts with ports, where `seen` is the port's view

-- Each has done its part of a run.
abbrev pub HaveRun : {P S : Type 0} → (P → PortView) → List (Hart P S) → List (Hart P S) → Type 0
HaveRun seen = AllZip (λ before after.
    HasRun (seen before.port) before.sites.hart_local before.job
    (seen after.port) after.sites.hart_local after.piece)

-- Each is the same hart, with the same hart-local state.
abbrev pub AreTheSame : {P S : Type 0} → (P → PortView) → List (Hart P S) → List (Hart P S) → Type 0
AreTheSame seen = AllZip (λ before after.
    IsSameHart (seen before.port) (seen after.port)
    × (after.sites.hart_local ≡ before.sites.hart_local))
