use Rattle.std.proofs.Common.{refl}
use Rattle.hart_loop.proofs.Sites.{gives_any}
use Rattle.hart_loop.proofs.harts.HartSitesSitesJobMachines.next.Goals as goal

pub returns-clause-gives : goal.returns-clause-gives
returns-clause-gives g c = λ settled. gives_any g.S.InDirectory.held c.args.site.now _ _ refl refl c.take_turn.ensures settled
