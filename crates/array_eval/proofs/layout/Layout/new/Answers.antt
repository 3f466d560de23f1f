use Rattle.std.proofs.Common.{length, ap, arith}
use Rattle.array_eval.proofs.LayoutLemmas.{declared_within}
use Rattle.array_eval.proofs.layout.Layout.new.Goals as goal

pub firsts_of-requires-clause-count : goal.firsts_of-requires-clause-count
firsts_of-requires-clause-count c =
    let ds = c.args.arrays.now.declarations.items in
    let within = declared_within ds c.requires.each in
    let small = c.requires.whole in
    let same = ap length c.deref.ensures.value in
    omega arith
