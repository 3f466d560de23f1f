use Rattle.std.proofs.Common.{below_more}
use Rattle.touch_bounds.proofs.apart.are_all_clear.Goals as goal

pub returns-then-not-are_clear-clause-clash : goal.returns-then-not-are_clear-clause-clash
returns-then-not-are_clear-clause-clash c all = c.if-not-are_clear.ensures.clash (all c.loop-number.number c.loop-number-test.true)

pub loop-number-preserved : goal.loop-number-preserved
loop-number-preserved c = below_more _ _ c.loop-number.invariant c.if-not-are_clear.ensures.clear
