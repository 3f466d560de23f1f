use Rattle.std.proofs.Common.{◌≡◌, ◌+◌, ◌-◌, sym, subst, arith}
use Rattle.transfer_table.proofs.Ends.{AreRaised, raised_next, all_raised}
use Rattle.transfer_table.proofs.board.find_ends.Goals as goal

pub loop-i-preserved : goal.loop-i-preserved
loop-i-preserved c = let e : c.loop-i.i - 1 + 1 ≡ c.loop-i.i = let a = c.loop-i-test.true in omega arith in
    raised_next c.args.plan.now c.sites.ensures.kept c.loop-i.ends.items c.raise.new.ends.items c.raise-in-loop-i.new.ends.items
    (c.loop-i.i - 1) c.parent.result c.index-end.result.now (let a = c.loop-i-test.true in let b = c.sites-i.ensures.same in omega arith)
    (subst (AreRaised c.args.plan.now c.loop-i.ends.items) (sym e) c.loop-i.invariant)
    c.raise.ensures c.index-end.ensures c.parent.ensures.same c.raise-in-loop-i.ensures

pub returns : goal.returns
returns c = let e : c.loop-i.i ≡ 0 = omega arith in
    all_raised c.args.plan.now c.sites-i.ensures.kept c.loop-i.ends.items (subst (AreRaised c.args.plan.now c.loop-i.ends.items) e c.loop-i.invariant)
