use Rattle.std.proofs.Common.{◌≡◌, ◌≤◌}
use Rattle.hart_work.specs.Sites.{Stays}
use Rattle.hart_work.proofs.serving.enter.Given as goal

-- A try that didn't bring the hart inside left it where it was.
abbrev pub invariant-tries : goal.invariant-tries
invariant-tries g l = record {
  same : g.P.Port.seen l.port ≡ g.P.Port.seen l.fn.port;
  count : g.P.Port.refused l.fn.port ≤ g.P.Port.refused l.port;
  stays : Stays g.H.Sites.facts l.fn.site l.site;
  hart_local : g.H.Sites.hart_local l.sites ≡ g.H.Sites.hart_local l.fn.sites;
}

abbrev pub decreases-tries : goal.decreases-tries
decreases-tries g l = g.H.Sites.facts.left l.site
