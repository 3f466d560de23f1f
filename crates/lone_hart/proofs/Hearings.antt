-- A callback changes no account of a site.
use Rattle.std.proofs.Common.{◌≡◌, refl, sym, subst, inl, inr, arith}
use Rattle.sched_api.specs.Wishes.{WishList, wishes_after}
use Rattle.sched_api.specs.declared.hearing.Told.{Told}
use Rattle.step_eval.specs.Nests.{NestedParts}
use Rattle.base_sched.specs.Oldest as base
use Rattle.forkjoin_sched.specs.Pools as pools
use Rattle.step_eval.specs.declared.work.Work.TheVariants.{Begin}
use Rattle.loop_team.specs.Teams as teams
use Rattle.hart_work.specs.Sites.{Stays}
use Rattle.lone_hart.specs.Served.{lone_facts}
use Rattle.lone_hart.specs.declared.site.LoneSite.{LoneSite}
use Rattle.lone_hart.specs.declared.site.LoneSite.TheVariants.{Base, Pool, Team}
use Rattle.lone_hart.proofs.Accounts.{heard}
use Rattle.lone_hart.proofs.ServedPools.{pool_heard_serving, pool_heard_lent}
use Rattle.lone_hart.proofs.ServedTeams.{team_heard_serving, team_heard_lent}

abbrev wished_pool : pools.PoolParts → WishList → pools.PoolParts
wished_pool p wishes = record p { agenda = record p.agenda { wishes = wishes } }

abbrev wished_team : teams.TeamParts → WishList → teams.TeamParts
wished_team t wishes = record t { agenda = record t.agenda { wishes = wishes } }

pool_wishes : (nested : NestedParts) (p : pools.PoolParts) (wishes : WishList) → Stays lone_facts (Pool nested p) (Pool nested (wished_pool p wishes))
pool_wishes nested p wishes = record {
  construct = refl;
  number = refl;
  settled = λ settled. (record { fit = settled.0.fit; one_phase = settled.0.one_phase; jobs = settled.0.jobs }, (settled.1.0, heard Begin p.book p.agenda wishes settled.1.0 settled.1.0 settled.1.1));
  owed = λ job owed. (record { fit = owed.0.fit; one_phase = owed.0.one_phase; jobs = owed.0.jobs }, (owed.1.0, owed.1.1, heard Begin p.book p.agenda wishes owed.1.0 _ owed.1.2));
  serving = λ p' around start es serving. (serving.0, elim serving.1 [ inl failed ↦ inl failed | inr serves ↦ inr (pool_heard_serving p' around start es nested p wishes serves) ]);
  lent = λ job p' around start es lent. (lent.0, pool_heard_lent p' around start es nested p wishes job lent.1);
  left = omega arith;
}

team_wishes : (t : teams.TeamParts) (wishes : WishList) → Stays lone_facts (Team t) (Team (wished_team t wishes))
team_wishes t wishes = record {
  construct = refl;
  number = refl;
  settled = λ settled. elim settled [
    | inl over ↦ inl over
    | inr runs ↦ inr record { waits = runs.waits; account = (runs.account.0, heard Begin t.barrier t.agenda wishes runs.account.0 runs.account.0 runs.account.1) }
  ];
  owed = λ job owed. (owed.0, owed.1, heard Begin t.barrier t.agenda wishes owed.0 _ owed.2);
  serving = λ p around start es serving. (serving.0, team_heard_serving p around start es t wishes serving.1);
  lent = λ job p around start es lent. (lent.0, team_heard_lent p around start es t wishes job lent.1);
  left = omega arith;
}

-- A base after a callback, a pool after a callback, and a team after a callback.
pub base_stays : (site : LoneSite) (before after : base.BaseState) → site ≡ Base before → Stays lone_facts site (Base after)
base_stays site before after is = subst (λ (s : LoneSite). Stays lone_facts s (Base after)) (sym is) (record {
  construct = refl;
  number = refl;
  settled = λ settled. settled;
  owed = λ job owed. owed;
  serving = λ p around start es serving. serving;
  lent = λ job p around start es lent. lent;
  left = omega arith;
})

pub pool_stays : (nested : NestedParts) (site : LoneSite) (before after : pools.PoolParts) (callback : Told) → site ≡ Pool nested before → pools.Hears before callback after →
    Stays lone_facts site (Pool nested after)
pool_stays nested site before after callback is hears =
    let wishes = wishes_after callback before.agenda.wishes in
    subst (λ (p : pools.PoolParts). Stays lone_facts site (Pool nested p)) (sym hears)
    (subst (λ (s : LoneSite). Stays lone_facts s (Pool nested (wished_pool before wishes))) (sym is) (pool_wishes nested before wishes))

pub team_stays : (site : LoneSite) (before after : teams.TeamParts) (callback : Told) → site ≡ Team before → teams.Hears before callback after → Stays lone_facts site (Team after)
team_stays site before after callback is hears =
    let wishes = wishes_after callback before.agenda.wishes in
    subst (λ (t : teams.TeamParts). Stays lone_facts site (Team t)) (sym hears)
    (subst (λ (s : LoneSite). Stays lone_facts s (Team (wished_team before wishes))) (sym is) (team_wishes before wishes))
