use Rattle.std.proofs.Common.{◌≡◌, ◌≤◌, ◌-◌}
use Rattle.transfer_table.specs.Plan.{is_within, site_count}
use Rattle.transfer_table.proofs.plan.Plan.is_within.Given as goal

-- The site is within iff the site that the climb has reached is.
abbrev pub invariant-loop-at : goal.invariant-loop-at
invariant-loop-at l = (l.at ≤ site_count l.self) × (is_within l.self l.around l.site ≡ is_within l.self l.around l.at)

abbrev pub decreases-loop-at : goal.decreases-loop-at
decreases-loop-at l = l.at - l.around
