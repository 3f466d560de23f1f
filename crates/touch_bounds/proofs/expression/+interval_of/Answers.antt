use Rattle.std.proofs.Common.{sym, subst}
use Rattle.array_meaning.specs.Stores.{var_of}
use Rattle.touch_bounds.specs.Intervals.{LiesIn}
use Rattle.touch_bounds.specs.Ranges.{bounds_of}
use Rattle.touch_bounds.proofs.RangeLemmas.{var_within}
use Rattle.touch_bounds.proofs.expression.+interval_of.Goals as goal

pub returns-in-Var : goal.returns-in-Var
returns-in-Var t c arrays vars store within =
    rw c.in-Var.is
    (subst (λ noted. LiesIn noted (var_of vars c.in-Var.name)) (sym c.get.ensures) (var_within (bounds_of c.args.ranges.now) vars c.in-Var.name within))
