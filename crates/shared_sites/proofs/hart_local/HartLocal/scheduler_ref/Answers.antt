use Rattle.std.proofs.Common.{refl, sym, subst}
use Rattle.shared_sites.specs.References.{IsRefTo}
use Rattle.shared_sites.specs.declared.scheduler_ref.SchedulerRef.TheVariants.{NoScheduler}
use Rattle.shared_sites.proofs.hart_local.HartLocal.scheduler_ref.Goals as goal

pub returns-in-None-team_ref-clause-finds : goal.returns-in-None-team_ref-clause-finds
returns-in-None-team_ref-clause-finds c =
    subst (λ site. IsRefTo c.args.self.now site c.args.level NoScheduler) (sym c.in-Team.is) (c.in-None-team_ref.ensures.none refl)
