use Rattle.std.proofs.Common.{rules, arith}
use Rattle.std.proofs.lemmas.Int.{ints}
use Rattle.touch_bounds.proofs.SumLemmas.{AreFit}
use Rattle.touch_bounds.proofs.ProductLemmas.{quotient_between, at_quotient}
use Rattle.touch_bounds.proofs.interval.quotient.Goals as goal

pub returns : goal.returns
returns c x h =
    let left : AreFit c.args.left = record { least = search rules; greatest = search rules } in
    let noted : AreFit c.between.result = record { least = search rules; greatest = search rules } in
    let low = c.in_ok-low.ensures in
    let high = c.in_ok-high.ensures in
    quotient_between c.between.result c.args.divisor c.args.left.least c.args.left.greatest x noted (λ e. let other = c.if-divisor-eq0.false in grind (arith, ints))
    (at_quotient c.between.result c.args.left.least c.args.divisor c.in_ok-low.low left.least c.ranges.divisor low.0.1 low.1 c.between.ensures.one)
    (at_quotient c.between.result c.args.left.greatest c.args.divisor c.in_ok-high.high left.greatest c.ranges.divisor high.0.1 high.1 c.between.ensures.other)
    h.low h.high
