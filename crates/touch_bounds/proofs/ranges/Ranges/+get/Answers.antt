use Rattle.std.proofs.Common.{◌∙◌, ap, sym, rules, w64}
use Rattle.std.specs.Prelude.{FitsSigned}
use Rattle.std.proofs.lemmas.Int.{to_z-of_z}
use Rattle.array_eval.specs.Views.{vars_of}
use Rattle.touch_bounds.specs.Intervals.{exactly}
use Rattle.touch_bounds.specs.Ranges.{bounds_of, interval_of}
use Rattle.touch_bounds.proofs.RangeLemmas.{fixed_interval}
use Rattle.touch_bounds.proofs.ranges.Ranges.+get.Goals as goal

pub returns-in-Fixed : goal.returns-in-Fixed
returns-in-Fixed t c =
    let fits : FitsSigned w64 c.get.result = search rules in
    c.exactly.ensures ∙ ap exactly (to_z-of_z w64 c.get.result fits ∙ c.get.ensures)
    ∙ sym (fixed_interval (vars_of c.in-Fixed.scope.now) c.args.name.now)
    ∙ ap (λ r. interval_of (bounds_of r) c.args.name.now) (sym c.in-Fixed.is)
