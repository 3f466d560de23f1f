use Rattle.std.proofs.Common.{arith, rules, subst, sym, ◌≤ℤ◌, ◌<ℤ◌, pos, FitsSigned, w64}
use Rattle.std.proofs.lemmas.Int.{ints}
use Rattle.touch_bounds.specs.Intervals.{LiesIn}
use Rattle.touch_bounds.proofs.ProductLemmas.{remainder_same}
use Rattle.touch_bounds.proofs.interval.remainder.Goals as goal

pub returns-then-left-divisor : goal.returns-then-left-divisor
returns-then-left-divisor c x h =
    let fits : FitsSigned w64 c.args.left.least = search rules in
    let fits' : FitsSigned w64 c.args.left.greatest = search rules in
    let low = c.if-left-ge0.true in
    let high = c.if-left-divisor.true in
    let least : pos 0 ≤ℤ c.args.left.least = grind (arith, ints) in
    let greatest : c.args.left.greatest <ℤ c.args.divisor = grind (arith, ints) in
    subst (LiesIn c.args.left) (sym (remainder_same x c.args.divisor (omega (arith, ints)) (omega (arith, ints)))) h
