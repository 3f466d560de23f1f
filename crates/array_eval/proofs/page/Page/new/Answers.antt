use Rattle.std.proofs.Common.{◌≡◌, length, replicate, drop, pos, ◌++◌, ap, ◌∙◌}
use Rattle.array_eval.proofs.PageLemmas.{zeros_behind}
use Rattle.array_eval.proofs.page.Page.new.Goals as goal

pub returns : goal.returns
returns c =
    let made : c.in_ok-new.field-0.value ≡ c.copy_from_slice.new.self ++ drop (length c.args.cells.now) (replicate 64 (pos 0)) = c.in_ok-new.ensures.ok in
    made ∙ ap (λ xs. xs ++ drop (length c.args.cells.now) (replicate 64 (pos 0))) c.copy_from_slice.ensures.after
    ∙ ap (λ xs. c.args.cells.now ++ xs) (zeros_behind (length c.args.cells.now) 64)
