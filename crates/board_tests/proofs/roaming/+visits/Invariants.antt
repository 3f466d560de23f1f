use Rattle.std.proofs.Common.{◌+◌, ◌*◌, ◌-◌}
use Rattle.transfer_table.specs.Plan.{site_count}
use Rattle.board_tests.specs.Roam.{IsBack}
use Rattle.board_tests.proofs.roaming.+visits.Given as goal

-- A child's number is greater than its parent's.
abbrev pub decreases-visit : goal.decreases-visit
decreases-visit g l = 2 * (site_count l.plan.now + 1 - l.site) + 1

abbrev pub decreases-visit_children : goal.decreases-visit_children
decreases-visit_children g l = 2 * (site_count l.plan.now + 1 - l.inside)

-- The hart is back from each site that it visited.
abbrev pub invariant-visit_children-loop-site : goal.invariant-visit_children-loop-site
invariant-visit_children-loop-site g l = IsBack (g.P.Port.seen l.initial.port) (g.P.Port.seen l.port)
