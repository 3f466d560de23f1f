use Rattle.std.proofs.Common.{◌≡◌, List, [], ℤ, pos, replicate, take, sym, ap, ◌∙◌, subst}
use Rattle.array_eval.specs.Pages.{cells_on, padded, pages_for, ArePages}
use Rattle.array_eval.proofs.PageLemmas.{zero_pages, zero_cells}
use Rattle.array_eval.proofs.paged.Paged.zero.Goals as goal

pub invariant_of-result : goal.invariant_of-result
invariant_of-result c =
    let count = c.from-count.result in
    let made : c.in_ok-repeat.field-0.items ≡ replicate (pages_for count) (padded []) =
    c.in_ok-repeat.ensures ∙ ap (λ n. replicate n c.in_ok-page.page) c.div_ceil.ensures ∙ ap (replicate (pages_for count)) c.in_ok-page.ensures in
    let P : List (List ℤ) → Type 0 = λ pages. ArePages count pages in
    subst P (sym made) (zero_pages count)

pub returns : goal.returns
returns c =
    let count = c.from-count.result in
    let made : c.in_ok-repeat.field-0.items ≡ replicate (pages_for count) (padded []) =
    c.in_ok-repeat.ensures ∙ ap (λ n. replicate n c.in_ok-page.page) c.div_ceil.ensures ∙ ap (replicate (pages_for count)) c.in_ok-page.ensures in
    ap (λ pages. take count (cells_on pages)) made ∙ zero_cells count ∙ ap (λ n. replicate n (pos 0)) c.from-count.ensures
