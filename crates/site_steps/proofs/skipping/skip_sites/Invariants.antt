use Rattle.std.proofs.Common.{◌≡◌, ◌<◌, ◌≤◌}
use Rattle.site_steps.specs.Skips.{HasSkipped, ChildrenClaimed}
use Rattle.site_steps.proofs.skipping.skip_sites.Given as goal

-- With bounds in the wrong order no site was looked at.
abbrev pub invariant-sites : goal.invariant-sites
invariant-sites g l = record {
  skipped : HasSkipped g.P.Port.skip_gives (g.P.Port.seen l.fn.port) (g.P.Port.refused l.fn.port) (g.P.Port.seen l.port) (g.P.Port.refused l.port) l.first l.site;
  count : g.P.Port.refused l.fn.port ≤ g.P.Port.refused l.port;
  claimed : ChildrenClaimed (g.P.Port.seen l.port) l.first l.site;
  none : l.end < l.first → l.site ≡ l.first;
}
