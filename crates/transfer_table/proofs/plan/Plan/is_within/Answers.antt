use Rattle.std.proofs.Common.{ap, sym, ◌∙◌, arith}
use Rattle.transfer_table.specs.Plan.{is_within}
use Rattle.transfer_table.proofs.Within.{within-step}
use Rattle.transfer_table.proofs.plan.Plan.is_within.Goals as goal

pub loop-at-preserved : goal.loop-at-preserved
loop-at-preserved c = let i = c.loop-at.invariant in let high = i.0 in let t = c.loop-at-test.true in let below = c.parent-at.ensures.below (omega arith, high) in (
  omega arith,
  i.1 ∙ (within-step c.args.self.now c.parent-at.ensures.kept c.args.around c.loop-at.at (omega arith) high ∙ ap (is_within c.args.self.now c.args.around) (sym c.parent-at.ensures.same)),
)
