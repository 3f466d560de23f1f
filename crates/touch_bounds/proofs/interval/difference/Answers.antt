use Rattle.std.proofs.Common.{rules}
use Rattle.touch_bounds.proofs.SumLemmas.{difference_lies, AreFit}
use Rattle.touch_bounds.proofs.interval.difference.Goals as goal

pub returns : goal.returns
returns c =
    let left : AreFit c.args.left = record { least = search rules; greatest = search rules } in
    let right : AreFit c.args.right = record { least = search rules; greatest = search rules } in
    difference_lies c.args.left c.args.right c.in_ok-least.least c.in_ok-greatest.greatest left right c.in_ok-least.ensures c.in_ok-greatest.ensures
