use Rattle.std.proofs.Common.{refl, sym}
use Rattle.std.proofs.lemmas.Bool.{false≢true}
use Rattle.hart_loop.proofs.Sites.{stays_turned}
use Rattle.hart_loop.proofs.harts.HartSitesSitesJobMachines.tries_again.Goals as goal

pub returns-clause-stays : goal.returns-clause-stays
returns-clause-stays g c = stays_turned g.S.InDirectory.held c.args.site.now _ refl refl c.take_turn.ensures

pub returns-clause-alone : goal.returns-clause-alone
returns-clause-alone g c gives_up = false≢true (sym gives_up)
