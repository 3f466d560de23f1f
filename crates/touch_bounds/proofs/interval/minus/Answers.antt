use Rattle.std.proofs.Common.{rules}
use Rattle.touch_bounds.proofs.SumLemmas.{minus_lies, AreFit}
use Rattle.touch_bounds.proofs.interval.minus.Goals as goal

pub returns : goal.returns
returns c =
    let operand : AreFit c.args.operand = record { least = search rules; greatest = search rules } in
    minus_lies c.args.operand c.in_ok-least.least c.in_ok-greatest.greatest operand c.in_ok-least.ensures c.in_ok-greatest.ensures
