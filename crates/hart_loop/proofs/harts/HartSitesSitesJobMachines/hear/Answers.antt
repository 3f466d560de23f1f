use Rattle.hart_work.proofs.Served.{stays_refl}
use Rattle.hart_loop.specs.Facts.{hart_facts}
use Rattle.hart_loop.proofs.harts.HartSitesSitesJobMachines.hear.Goals as goal

pub returns-clause-stays : goal.returns-clause-stays
returns-clause-stays g c = stays_refl (hart_facts g.S.InDirectory.held) c.args.site.now
