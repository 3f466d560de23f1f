use Rattle.std.proofs.Common.{subst, inr}
use Rattle.lone_hart.specs.Served.{is_lent}
use Rattle.lone_hart.proofs.ServedPools.{pool_keeps}
use Rattle.lone_hart.proofs.lone.LoneSitesSitesJobMachines.deposit.Goals as goal

pub returns-in-Pool-clause-served : goal.returns-in-Pool-clause-served
returns-in-Pool-clause-served g c = λ p around start es es' lent ran.
    let at = subst (λ s. is_lent s c.args.piece.job p around start es) c.in-Pool.is lent in
    (at.0, inr (pool_keeps p around start es es' c.in-Pool.nested c.in-Pool.pool c.deposit_in_pool.new.pool c.args.piece.job at.1 ran c.deposit_in_pool.ensures.book c.deposit_in_pool.ensures.agenda))

pub returns-in-Team-clause-served : goal.returns-in-Team-clause-served
returns-in-Team-clause-served g c = λ p around start es es' lent ran.
    let at = subst (λ s. is_lent s c.args.piece.job p around start es) c.in-Team.is lent in
    (at.0, c.arrive_in_team.ensures.served p around start es es' at.1 ran)
