-- The effect of skipping sites, by the results that the port gives for skips, and by the port's count of refusals before and
-- after.
use Rattle.std.specs.Prelude.{◌≡◌, ◌⊎◌, ℕ, ◌<◌, ◌≤◌, true, List, [], ◌∷◌, ◌++◌, map}
use Rattle.std.specs.List.{All, Contains}
use Rattle.transfer_table.specs.Plan.{IsSite, parent}
use Rattle.transfer_table.specs.declared.entry.Entry.TheVariants.{Skip}
use Rattle.hart_port.specs.Count.{Rose}
use Rattle.hart_port.specs.PortView.{PortView, HasClaimed}
use Rattle.site_steps.specs.Sweeps.{Gives, IsRefused}

-- A child of the hart's owner, from first to before end.
pub record IsChildBetween (h : PortView) (first end s : ℕ) : Type 0 where
  pub low : first ≤ s
  pub high : s < end
  pub site : IsSite h.plan s
  pub child : parent h.plan s ≡ h.owner

-- A rising list: each number is below all that follow.
abbrev pub AreRising : List ℕ → Type 0
AreRising [] = Unit {0}
AreRising (s ∷ more) = All (λ t. s < t) more × AreRising more

-- The hart skipped these children of its owner, in rising order, and made no other entry. The port refused the skip of each
-- other child between the bounds.
pub record HasSkipped {P : Type 0} (gives : Gives P) (h : PortView) (refused : ℕ)
    (after : PortView) (refused' first end : ℕ) : Type 0 where
  pub sites : List ℕ
  pub same : after ≡ record h { mine = h.mine ++ map (λ s. Skip h.hart s) sites }
  pub children : All (IsChildBetween h first end) sites
  pub rising : AreRising sites
  pub each : (s : ℕ) → IsChildBetween h first end s
      → Contains sites s ⊎ (Rose refused refused' × IsRefused gives s)

-- If no other hart shares the table: each child of the hart's owner between these bounds was registered by the hart, or skipped
-- by itself or with a site around it.
abbrev pub ChildrenClaimed : PortView → ℕ → ℕ → Type 0
ChildrenClaimed h first end = h.alone ≡ true → (s : ℕ) → first ≤ s → s < end → IsSite h.plan s
    → parent h.plan s ≡ h.owner → HasClaimed h s
