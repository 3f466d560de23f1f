-- The effect of a sweep, by the results that a port gives for registers, and by the hart's view and the port's count of
-- refusals before and after.
use Rattle.std.specs.Prelude.{◌≡◌, ◌⊎◌, ℕ, ◌<◌, Option, Result, Err}
use Rattle.transfer_table.specs.Plan.{IsSite, parent}
use Rattle.transfer_table.specs.Entry.{unregisters}
use Rattle.hart_port.specs.Count.{Rose}
use Rattle.hart_port.specs.PortView.{PortView}
use Rattle.hart_port.specs.declared.port.Taken.{Taken}
use Rattle.site_steps.specs.Visits.{IsBefore}

-- A relation of a port, a site, the result of a register or a skip, and the port afterwards.
abbrev pub Gives : Type 0 → Type 1
Gives P = P → ℕ → Result (Unit {0}) Taken → P → Type 0

-- The port refused such a call for the site.
abbrev pub IsRefused : {P : Type 0} → Gives P → ℕ → Type 0
IsRefused {P} gives s = (before after : P) × (taken : Taken) × gives before s (Err taken) after

-- The hart unregistered the site in the sweep, or the port refused a register of the site. Why no more: on a shared table
-- another hart may have the site. A hart that is alone knows that each child was unregistered or skipped.
abbrev pub IsSwept : {P : Type 0} → Gives P → PortView → ℕ → PortView → ℕ → ℕ → Type 0
IsSwept gives h refused after refused' s = (unregisters s h.mine < unregisters s after.mine)
    ⊎ (Rose refused refused' × IsRefused gives s)

-- Each child of the hart's owner is swept.
abbrev pub AreSwept : {P : Type 0} → Gives P → PortView → ℕ → PortView → ℕ → Type 0
AreSwept gives h refused after refused' = (s : ℕ) → IsSite h.plan s → parent h.plan s ≡ h.owner
    → IsSwept gives h refused after refused' s

-- Each child of the hart's owner before the next one to be visited is swept.
abbrev pub AreSweptBefore : {P : Type 0} → Gives P → PortView → ℕ → PortView → ℕ → Option ℕ
    → Type 0
AreSweptBefore gives h refused after refused' next = (s : ℕ) → IsSite h.plan s
    → parent h.plan s ≡ h.owner → IsBefore next s → IsSwept gives h refused after refused' s
