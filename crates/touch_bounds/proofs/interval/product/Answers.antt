use Rattle.std.proofs.Common.{rules}
use Rattle.touch_bounds.proofs.SumLemmas.{AreFit, seen}
use Rattle.touch_bounds.proofs.ProductLemmas.{product_lies}
use Rattle.touch_bounds.proofs.interval.product.Goals as goal

pub returns : goal.returns
returns c =
    let left : AreFit c.args.left = record { least = search rules; greatest = search rules } in
    let right : AreFit c.args.right = record { least = search rules; greatest = search rules } in
    let noted : AreFit c.joined.result = record { least = search rules; greatest = search rules } in
    let low = c.joined.ensures.one in
    let high = c.joined.ensures.other in
    product_lies c.args.left c.args.right c.joined.result c.in_ok-low_low.low_low c.in_ok-low_high.low_high c.in_ok-high_low.high_low c.in_ok-high_high.high_high left right noted
    c.in_ok-low_low.ensures c.in_ok-low_high.ensures c.in_ok-high_low.ensures c.in_ok-high_high.ensures
    (low (seen c.in_ok-low_low.low_low) c.between.ensures.one) (low (seen c.in_ok-low_high.low_high) c.between.ensures.other)
    (high (seen c.in_ok-high_low.high_low) c.between-2.ensures.one) (high (seen c.in_ok-high_high.high_high) c.between-2.ensures.other)
