use Rattle.std.proofs.Common.{◌≡◌, ◌++◌, ◌∷◌, [], sym, subst, inr, ◌∙◌}
use Rattle.transfer_table.specs.declared.entry.Entry.TheVariants.{Register}
use Rattle.step_eval.specs.Nests.{NestedParts, nested_of}
use Rattle.loop_team.specs.Teams.{AreJobsIn}
use Rattle.job_machines.specs.Orders.{HasServed}
use Rattle.job_machines.proofs.Orders.{serving_starts}
use Rattle.job_machines.specs.Accounts.{is_fresh}
use Rattle.lone_hart.specs.Served.{serves_pool, serves_team}
use Rattle.lone_hart.proofs.lone.LoneSitesSitesJobMachines.open.Goals as goal

pub returns-in_ok-pool-in-Par-clause-serving : goal.returns-in_ok-pool-in-Par-clause-serving
returns-in_ok-pool-in-Par-clause-serving g c = λ keeps p around es hart plan fresh.
    let own = c.in_ok-nested.nested in
    let pool = c.in_ok-pool-in-Par.pool in
    let of = c.in_ok-pool-in-Par.ensures.of in
    let same : own ≡ c.args.nested.now = c.in_ok-nested.ensures in
    let served = serving_starts p around es hart (nested_of own) plan of.fit (subst (is_fresh p around es) (sym same) fresh) in (
      plan,
      subst (λ (n : NestedParts). serves_pool own pool p n.site (es ++ Register hart n.site ∷ []) (es ++ Register hart n.site ∷ [])) same
          (inr (record { done = 0; of = of; stands = c.in_ok-pool-in-Par.ensures.none; served = served })),
    )

pub returns-in_ok-open_team-in-Team-clause-serving : goal.returns-in_ok-open_team-in-Team-clause-serving
returns-in_ok-open_team-in-Team-clause-serving g c = λ keeps p around es hart plan fresh.
    let team = c.in_ok-open_team-in-Team.field-0 in
    let opened = c.in_ok-open_team-in-Team.ensures in
    let same : team.nested ≡ c.args.nested.now = opened.nested ∙ c.in_ok-nested.ensures in
    let served = serving_starts p around es hart (nested_of team.nested) plan opened.fit (subst (is_fresh p around es) (sym same) fresh) in
    let start = es ++ Register hart team.nested.site ∷ [] in
    let at = subst (λ n. HasServed p team.nested.site start start (nested_of team.nested) n 0) (sym opened.opened) served in (
      plan,
      subst (λ (n : NestedParts). serves_team team p n.site (es ++ Register hart n.site ∷ []) (es ++ Register hart n.site ∷ [])) same
          (inr (inr (record { jobs = subst (λ n. AreJobsIn team.nested n team.barrier.jobs) (sym opened.opened) opened.jobs; done = 0; stands = opened.none; served = at }))),
    )
