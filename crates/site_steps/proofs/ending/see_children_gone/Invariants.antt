use Rattle.std.proofs.Common.{◌≡◌}
use Rattle.site_steps.specs.Back.{HasLooked}
use Rattle.site_steps.specs.Visits.{SeenGoneBefore, IsChildIf, sites_from}
use Rattle.site_steps.proofs.ending.see_children_gone.Given as goal

abbrev pub invariant-children : goal.invariant-children
invariant-children g l = record {
  looked : HasLooked (g.P.Port.seen l.fn.port) (g.P.Port.seen l.port);
  count : g.P.Port.refused l.port ≡ g.P.Port.refused l.fn.port;
  closed : (g.P.Port.seen l.port).closed ≡ (g.P.Port.seen l.fn.port).closed;
  gone : SeenGoneBefore (g.P.Port.seen l.port) l.next;
  child : IsChildIf l.tree (g.P.Port.seen l.fn.port).owner l.next;
}

abbrev pub decreases-children : goal.decreases-children
decreases-children g l = sites_from l.tree l.next
