use Rattle.std.proofs.Common.{subst, sym}
use Rattle.lone_hart.specs.Served.{GivesLone}
use Rattle.lone_hart.specs.declared.site.LoneSite.TheVariants.{Pool, Team}
use Rattle.lone_hart.proofs.lone.LoneSitesSitesJobMachines.next.Goals as goal

pub returns-in-Pool-clause-gives : goal.returns-in-Pool-clause-gives
returns-in-Pool-clause-gives g c =
    let own = c.in-Pool.nested in
    subst (λ s. GivesLone s c.next_of_pool.result (Pool own c.next_of_pool.new.pool)) (sym c.in-Pool.is) (c.next_of_pool.ensures.gives own)

pub returns-in-Team-clause-gives : goal.returns-in-Team-clause-gives
returns-in-Team-clause-gives g c =
    subst (λ s. GivesLone s c.next_of_team.result (Team c.next_of_team.new.team)) (sym c.in-Team.is) c.next_of_team.ensures.gives
