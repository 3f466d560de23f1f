use Rattle.std.proofs.Common.{◌≡◌, ◌∙◌, to_z, of_z, w64, sym, subst, rules}
use Rattle.std.specs.Prelude.{FitsSigned}
use Rattle.std.proofs.lemmas.Int.{to_z-of_z}
use Rattle.std.proofs.lemmas.Option.{IfSome_then}
use Rattle.array_meaning.specs.Values.{quotient}
use Rattle.touch_bounds.specs.Intervals.{LiesIn}
use Rattle.touch_bounds.proofs.interval.applied.Goals as goal

pub returns-in_ok-constant-in-Div : goal.returns-in_ok-constant-in-Div
returns-in_ok-constant-in-Div c =
    let fits : FitsSigned w64 c.in_ok-constant-in-Div.field-0 = search rules in
    rw c.in-Div.is
    (IfSome_then c.quotient.result c.quotient.ensures
    (λ noted leads x y hx hy.
    let only : y ≡ to_z w64 (of_z w64 c.in_ok-constant-in-Div.field-0) = c.in_ok-constant-in-Div.ensures y hy ∙ sym (to_z-of_z w64 c.in_ok-constant-in-Div.field-0 fits) in
    subst (λ d. LiesIn noted (quotient x d)) (sym only) (leads x hx)))
