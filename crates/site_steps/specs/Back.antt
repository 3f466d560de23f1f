-- How a hart returns to the site that it was in.
use Rattle.std.specs.Prelude.{◌≡◌, ◌≢◌, ℕ, ◌<◌, ◌≤◌, true, false}
use Rattle.transfer_table.specs.Plan.{Plan, IsSite, parent}
use Rattle.transfer_table.specs.Entry.{unregisters, skips_over}
use Rattle.hart_port.specs.PortView.{PortView, is_in, HasEnded}

-- The hart is the home of no site inside its owner.
abbrev pub IsSettled : PortView → Type 0
IsSettled h = (s : ℕ) → h.owner < s → is_in h.homes s ≡ false

-- The hart is back in the site that it was in, and the home of no site inside it. The sites around are unchanged, and each site
-- that was gone, unregistered or skipped is so still.
pub record IsBack (h after : PortView) : Type 0 where
  pub plan : after.plan ≡ h.plan
  pub hart : after.hart ≡ h.hart
  pub alone : after.alone ≡ h.alone
  pub table : after.table ≡ h.table
  pub owner : after.owner ≡ h.owner
  pub homes : (s : ℕ) → s ≤ h.owner → is_in after.homes s ≡ is_in h.homes s
  pub inner : IsSettled after
  pub closed : (s : ℕ) → s ≤ h.owner → is_in after.closed s ≡ is_in h.closed s
  pub gone : (s : ℕ) → is_in h.gone s ≡ true → is_in after.gone s ≡ true
  pub over : (s : ℕ) → unregisters s h.mine ≤ unregisters s after.mine
  pub skipped : (p : Plan) (s : ℕ) → skips_over p s h.mine ≤ skips_over p s after.mine

-- If no other hart shares the table, each child of the hart's owner was unregistered or skipped.
abbrev pub ChildrenOver : PortView → Type 0
ChildrenOver h = h.alone ≡ true → (c : ℕ) → IsSite h.plan c → parent h.plan c ≡ h.owner
    → HasEnded h c

-- The hart read sites' words, and its owner's, and made no entry.
pub record HasLooked (h after : PortView) : Type 0 where
  pub same : after ≡ record h { closed = after.closed; empty = after.empty; gone = after.gone }
  pub closed : (s : ℕ) → s ≢ h.owner → is_in after.closed s ≡ is_in h.closed s
  pub gone : (s : ℕ) → is_in h.gone s ≡ true → is_in after.gone s ≡ true
