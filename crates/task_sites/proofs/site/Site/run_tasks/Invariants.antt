use Rattle.std.proofs.Common.{◌≡◌}
use Rattle.task_sites.proofs.site.Site.run_tasks.Given as goal

abbrev pub invariant-turns : goal.invariant-turns
invariant-turns g l = g.H.Harts.levels l.harts ≡ g.H.Harts.levels l.fn.harts
