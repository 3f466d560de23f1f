use Rattle.std.proofs.Common.{map, length, ap, subst, arith}
use Rattle.deque_rows.specs.declared.account.Log.{Log}
use Rattle.deque_rows.specs.Account.{Determines}
use Rattle.deque_rows.specs.Rows.{pass_logs, stolen_by}
use Rattle.deque_rows.proofs.Settles.{settled, few_rows}
use Rattle.deque_rows.proofs.laws.settle_all.Goals as goal

pub look_at_all-requires-clause-few : goal.look_at_all-requires-clause-few
look_at_all-requires-clause-few c = let f = few_rows c.args.rows.now c.requires in let l = c.gather.auto.rows in omega (arith, f, l)

pub look_at_all-requires-clause-whole : goal.look_at_all-requires-clause-whole
look_at_all-requires-clause-whole c = λ r there. ap (λ (v : Log). v.parts) (c.gather.ensures r (let l = c.gather.auto.rows in omega (arith, there, l)))

pub returns : goal.returns
returns c = λ r there.
    let first = c.args.rows.now in
    let stolen = stolen_by (map pass_logs first) r (length first) in
    let told = c.look_at_all.ensures r (let l = c.gather.auto.rows in omega (arith, there, l)) in
    settled _ stolen told.0 (subst (λ (v : Log). Determines v told.0) (c.gather.ensures r there) told.1)
