use Rattle.std.proofs.Common.{subst, sym, ◌∙◌}
use Rattle.join_book.specs.Books.{HasFailed}
use Rattle.lone_hart.specs.Sites.{IsOverSite}
use Rattle.lone_hart.specs.Served.{is_serving}
use Rattle.lone_hart.proofs.ServedSites.{pool_ended, team_ended}
use Rattle.lone_hart.proofs.lone.LoneSitesSitesJobMachines.has_failed.Goals as goal

pub returns-in-Pool-clause-ended : goal.returns-in-Pool-clause-ended
returns-in-Pool-clause-ended g c = λ well over p around start es plan serving.
    let none : ¬ HasFailed c.in-Pool.pool.book = λ failed. let yes = c.has_failed.ensures.1 failed in cc in
    let at = subst (λ s. is_serving s p around start es) c.in-Pool.is serving in
    let ended = subst IsOverSite c.in-Pool.is over in
    pool_ended c.in-Pool.nested c.in-Pool.pool p around start es none ended.1 plan at.1

pub returns-in-Team-clause-ended : goal.returns-in-Team-clause-ended
returns-in-Team-clause-ended g c = λ well over p around start es plan serving.
    let at = subst (λ s. is_serving s p around start es) c.in-Team.is serving in
    team_ended c.in-Team.team p around start es (sym c.has_failed-in-Team.ensures ∙ well) (subst IsOverSite c.in-Team.is over) plan at.1
