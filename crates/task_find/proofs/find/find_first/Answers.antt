use Rattle.std.proofs.Common.{◌≡◌, Some, length, sym, ap, subst, ◌∙◌}
use Rattle.std.specs.List.{position}
use Rattle.task_find.proofs.Positions.{found_position}
use Rattle.task_find.proofs.find.find_first.Goals as goal

pub returns-in-Err-At-clause-found : goal.returns-in-Err-At-clause-found
returns-in-Err-At-clause-found g c =
    let w = c.whole-whole in
    let e = c.in-Err-At in
    subst (λ f. Some e.index ≡ position (g.P.Predicate.passes f.predicate.now) f.elements.now) w.ensures.fold
    (found_position (g.P.Predicate.passes w.result.fold.predicate.now) w.result.fold.elements.now w.result.low w.result.high e.index e.field-0 w.ensures.low (w.ensures.high ∙ ap (λ f. length f.elements.now) (sym w.ensures.fold)) e.field-0-is e.ensures.error)
