use Rattle.std.proofs.Common.{◌+◌, ◌-◌, ◌*◌, ◌≤◌}
use Rattle.transfer_table.specs.Plan.{site_count}
use Rattle.site_steps.specs.Back.{IsBack}
use Rattle.site_steps.specs.Visits.{ChildrenOverBefore, IsChildIf, sites_from}
use Rattle.site_steps.specs.Sweeps.{AreSweptBefore}
use Rattle.site_steps.proofs.sweeping.+sweep.Given as goal

-- Each site is above the one around it.
abbrev pub decreases-sweep_children : goal.decreases-sweep_children
decreases-sweep_children g l = 2 * (site_count l.tree.now - (g.P.Port.seen l.port.now).owner) + 1

abbrev pub decreases-sweep_site : goal.decreases-sweep_site
decreases-sweep_site g l = 2 * (site_count l.tree.now - (g.P.Port.seen l.port.now).owner)

abbrev pub invariant-sweep_children-children : goal.invariant-sweep_children-children
invariant-sweep_children-children g l = record {
  back : IsBack (g.P.Port.seen l.fn.port) (g.P.Port.seen l.port);
  over : ChildrenOverBefore (g.P.Port.seen l.port) l.next;
  count : g.P.Port.refused l.fn.port ≤ g.P.Port.refused l.port;
  swept : AreSweptBefore g.P.Port.register_gives (g.P.Port.seen l.fn.port) (g.P.Port.refused l.fn.port) (g.P.Port.seen l.port) (g.P.Port.refused l.port) l.next;
  child : IsChildIf l.tree (g.P.Port.seen l.fn.port).owner l.next;
}

abbrev pub decreases-sweep_children-children : goal.decreases-sweep_children-children
decreases-sweep_children-children g l = sites_from l.tree l.next
