-- How far a hart has come that goes through the children of its owner.
use Rattle.std.specs.Prelude.{◌≡◌, ℕ, ◌+◌, ◌-◌, ◌<◌, true, Option, Some, None}
use Rattle.transfer_table.specs.Plan.{Plan, IsSite, parent, site_count}
use Rattle.hart_port.specs.PortView.{PortView, is_in, HasEnded}

-- The next child to be visited, if there is one, is a child of this site.
abbrev pub IsChildIf : Plan → ℕ → Option ℕ → Type 0
IsChildIf p around None = Unit {0}
IsChildIf p around (Some next) = IsSite p next × (parent p next ≡ around)

-- The number of sites from the next one on.
abbrev pub sites_from : Plan → Option ℕ → ℕ
sites_from p None = 0
sites_from p (Some next) = site_count p + 1 - next

-- The child is before the next one to be visited.
abbrev pub IsBefore : Option ℕ → ℕ → Type 0
IsBefore None c = Unit {0}
IsBefore (Some next) c = c < next

-- If no other hart shares the table, the children before the next one were unregistered or skipped.
abbrev pub ChildrenOverBefore : PortView → Option ℕ → Type 0
ChildrenOverBefore h next = h.alone ≡ true → (c : ℕ) → IsSite h.plan c → parent h.plan c ≡ h.owner
    → IsBefore next c → HasEnded h c

-- The hart has seen the children before the next one gone.
abbrev pub SeenGoneBefore : PortView → Option ℕ → Type 0
SeenGoneBefore h next = (c : ℕ) → IsSite h.plan c → parent h.plan c ≡ h.owner → IsBefore next c
    → is_in h.gone c ≡ true
