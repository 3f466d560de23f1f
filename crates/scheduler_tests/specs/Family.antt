-- A parent and its two children, and the views of three harts among them.
use Rattle.std.specs.Prelude.{ℕ, [], ◌∷◌}
use Rattle.transfer_table.specs.Plan.{Plan}
use Rattle.hart_port.specs.PortView.{PortView, registered, requested_by, entered}
use Rattle.hart_port.specs.Locked.{first_locked}

-- Three harts; the parent at site 1, and its children at sites 2 and 3.
abbrev pub family_plan : Plan
family_plan = record { harts = 3; parents = 0 ∷ 1 ∷ 1 ∷ [] }

-- A hart before its first transfer.
abbrev pub new_hart : ℕ → PortView
new_hart hart = (first_locked family_plan hart).view

-- The hart has opened a site, and requested two more.
abbrev pub opened : PortView → ℕ → PortView
opened view site = requested_by (registered view site) site 2

-- The home of the parent and of the first child.
abbrev pub home_of_both : PortView
home_of_both = opened (opened (new_hart 0) 1) 2

-- The home of the second child, which came into the parent.
abbrev pub home_of_team : PortView
home_of_team = opened (entered (new_hart 1) 1) 3
