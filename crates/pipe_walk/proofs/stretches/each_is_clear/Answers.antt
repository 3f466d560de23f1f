use Rattle.std.proofs.Common.{arith, below_more}
use Rattle.array_tree.specs.Trees.{sequences_of}
use Rattle.touch_bounds.specs.Ranges.{bounds_of}
use Rattle.pipe_walk.proofs.StretchLemmas.{never_crossing}
use Rattle.pipe_walk.proofs.stretches.each_is_clear.Goals as goal

pub loop-member-preserved : goal.loop-member-preserved
loop-member-preserved c = below_more _ _ c.loop-member.invariant c.if-not-member_is_clear.ensures

pub returns : goal.returns
returns c =
    let arrays = c.args.layout.now in
    let bounds = bounds_of c.args.ranges.now in
    let phases = sequences_of c.args.phases.now in
    let var = c.args.turns.var.now in
    let low = c.args.turns.low in
    let high = c.args.turns.high in
    let members = c.args.members in
    let ends = c.loop-member-test.false in
    never_crossing arrays bounds phases var low high members c.loop-member.member (omega arith) c.loop-member.invariant
