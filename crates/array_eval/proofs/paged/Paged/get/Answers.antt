use Rattle.std.proofs.Common.{◌%◌, w64, get_or, pos, ap, ◌∙◌}
use Rattle.std.proofs.lemmas.Int.{to_z-of_z}
use Rattle.array_eval.specs.Pages.{cells_on}
use Rattle.array_eval.proofs.PageLemmas.{below_count, cell_of_page}
use Rattle.array_eval.proofs.paged.Paged.get.Goals as goal

pub returns : goal.returns
returns c =
    let pages = c.self.inside.pages.items in
    let cell = c.args.cell in
    let inside = below_count c.self.inside.count (cells_on pages) c.args.self.now cell c.self.view_is c.requires in
    to_z-of_z w64 c.get.result (record { sfits = c.get.type_inv }) ∙ c.get.ensures
    ∙ ap (λ page. get_or page (cell % 64) (pos 0)) c.index.ensures
    ∙ cell_of_page c.self.inside.count cell pages c.index.result.now (pos 0) c.self.invariant inside
    ∙ ap (λ cells. get_or cells cell (pos 0)) c.self.view_is
