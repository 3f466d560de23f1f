use Rattle.std.proofs.Common.{◌≡◌, ◌+◌, ◌-◌, arith, rules}
use Rattle.transfer_table.specs.Plan.{parent}
use Rattle.journal_picture.specs.TextPicture.{steps_up}
use Rattle.journal_picture.proofs.Turns.{steps_more, steps_none}
use Rattle.journal_picture.proofs.tree.depth_of.Goals as goal

pub returns-then-at-eq0-clause-same : goal.returns-then-at-eq0-clause-same
returns-then-at-eq0-clause-same c =
    let none : steps_up c.args.plan.now (c.args.site - c.loop-i._i) c.loop-i.at ≡ 0 = steps_none c.args.plan.now (c.args.site - c.loop-i._i) c.loop-i.at (search rules) in
    omega (arith, none, c.loop-i.invariant.1)

pub loop-i-preserved : goal.loop-i-preserved
loop-i-preserved c =
    let more : steps_up c.args.plan.now (c.args.site - c.loop-i._i) c.loop-i.at ≡ 1 + steps_up c.args.plan.now (c.args.site - (c.loop-i._i + 1)) (parent c.args.plan.now c.loop-i.at) =
    steps_more c.args.plan.now c.args.site c.loop-i._i c.loop-i.at (search rules) (search rules) in
    grind (arith, more, c.loop-i.invariant.0, c.loop-i.invariant.1, c.parent-at.ensures.same)
