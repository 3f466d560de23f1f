use Rattle.std.proofs.Common.{◌++◌, take, sym, ap, ◌∙◌}
use Rattle.array_eval.specs.Pages.{cells_on}
use Rattle.array_eval.proofs.PageLemmas.{one_more}
use Rattle.array_eval.proofs.paged.Paged.to_cells.Goals as goal

pub loop-page-preserved : goal.loop-page-preserved
loop-page-preserved c =
    let pages = c.deref-page-items.result.now in
    let index = c.loop-page.page-index in
    c.in_ok-extend_from_slice.ensures.items
    ∙ ap (λ cells. cells ++ c.cells.result.now) c.loop-page.invariant
    ∙ ap (λ page. cells_on (take index pages) ++ page) (c.cells.ensures.same ∙ c.page-item.is)
    ∙ sym (one_more pages index c.page-item.result c.loop-page-test.true)
