use Rattle.std.proofs.Common.{◌≡◌, arith, subst}
use Rattle.transfer_table.specs.Plan.{site_count}
use Rattle.transfer_table.proofs.Counts.{AreCounted, all_counted}
use Rattle.transfer_table.proofs.board.count_children.Goals as goal

pub returns : goal.returns
returns c = let e : c.loop-i.i ≡ site_count c.args.plan.now = omega arith in all_counted c.args.plan.now c.loop-i.counts.items (subst (AreCounted c.args.plan.now.parents c.loop-i.counts.items) e c.loop-i.invariant)
