use Rattle.hart_work.specs.Callbacks.{callback_with}
use Rattle.lone_hart.proofs.Hearings.{base_stays, pool_stays, team_stays}
use Rattle.lone_hart.proofs.lone.LoneSitesSitesJobMachines.hear.Goals as goal

pub returns-in-Base-clause-stays : goal.returns-in-Base-clause-stays
returns-in-Base-clause-stays g c = base_stays c.args.site.now c.in-Base.base c.call_back.new.scheduler c.in-Base.is

pub returns-in-Pool-clause-stays : goal.returns-in-Pool-clause-stays
returns-in-Pool-clause-stays g c = pool_stays c.in-Pool.nested c.args.site.now c.in-Pool.pool c.call_back-in-Pool.new.scheduler (callback_with c.args.call c.args.child c.args.count) c.in-Pool.is c.call_back-in-Pool.ensures.hears

pub returns-in-Team-clause-stays : goal.returns-in-Team-clause-stays
returns-in-Team-clause-stays g c = team_stays c.args.site.now c.in-Team.team c.call_back-in-Team.new.scheduler (callback_with c.args.call c.args.child c.args.count) c.in-Team.is c.call_back-in-Team.ensures.hears
