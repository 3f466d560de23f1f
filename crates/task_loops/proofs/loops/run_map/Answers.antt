use Rattle.std.proofs.Common.{length, sym, ap, subst, ◌∙◌}
use Rattle.std.specs.List.{AllZip}
use Rattle.task_loops.proofs.Ranges.{whole_range}
use Rattle.task_loops.proofs.loops.run_map.Goals as goal

pub returns-clause-output : goal.returns-clause-output
returns-clause-output g c =
    let w = c.whole-whole in
    let all = whole_range w.result.fold.elements.now w.result.low w.result.high w.ensures.low (w.ensures.high ∙ ap (λ m. length m.elements.now) (sym w.ensures.fold)) in
    subst (λ m. AllZip (g.M.Map.image m.map) m.elements.now c.in_ok-images.images.items) w.ensures.fold
    (subst (λ ws. AllZip (g.M.Map.image w.result.fold.map) ws c.in_ok-images.images.items) all c.in_ok-images.ensures.output)
