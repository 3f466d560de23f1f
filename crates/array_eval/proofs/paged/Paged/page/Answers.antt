use Rattle.std.proofs.Common.{◌≡◌, ◌+◌, ◌*◌, ◌<◌, length, get_or, pos, sym, ap, ◌∙◌, arith}
use Rattle.std.proofs.lemmas.List.{get_or-take}
use Rattle.array_eval.specs.Pages.{cells_on, pages_for}
use Rattle.array_eval.proofs.PageLemmas.{get_at, length_seen}
use Rattle.array_eval.proofs.paged.Paged.page.Goals as goal

pub returns-clause-same : goal.returns-clause-same
returns-clause-same c = λ place in_page inside.
    let pages = c.self.inside.pages.items in
    let count = c.self.inside.count in
    let number = c.args.number in
    let cell = 64 * number + place in
    let seen : count ≡ length c.args.self.now = sym (length_seen count pages c.self.invariant) ∙ ap length c.self.view_is in
    let many : length pages ≡ pages_for (length c.args.self.now) = c.self.invariant.fewest ∙ ap pages_for seen in
    let there : number < length pages = omega (arith, many, c.requires) in
    ap (λ page. get_or page place (pos 0)) (c.cells.ensures.same ∙ c.index.ensures)
    ∙ sym (get_at pages number place c.index.result.now (pos 0) c.self.invariant.whole there in_page)
    ∙ sym (get_or-take count (cells_on pages) cell (pos 0) (omega (arith, seen, inside)))
    ∙ ap (λ cells. get_or cells cell (pos 0)) c.self.view_is
