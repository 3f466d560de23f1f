use Rattle.std.proofs.Common.{◌<◌, ◌/◌, ◌%◌, w64, take, set, ap, ◌∙◌, to_z, of_z, arith}
use Rattle.std.proofs.lemmas.Int.{to_z-of_z}
use Rattle.std.proofs.lemmas.Result.{on_ok_weaker, on_err_weaker}
use Rattle.array_eval.specs.Pages.{cells_on}
use Rattle.array_eval.proofs.PageLemmas.{below_count, put_in_page, put_or_not}
use Rattle.array_eval.proofs.paged.Paged.put.Goals as goal

pub invariant_of-self : goal.invariant_of-self
invariant_of-self c =
    let pages = c.self.inside.pages.items in
    let below = below_count c.self.inside.count (cells_on pages) c.args.self.now c.args.cell c.self.view_is c.requires in
    let same = c.from-cell.ensures in
    let inside : c.from-cell.result < c.self.inside.count = omega (arith, below, same) in
    let value = to_z w64 (of_z w64 c.args.value) in
    put_or_not c.self.inside.count c.from-cell.result pages c.index_mut.result.now c.put.new.self value c.put.result c.self.invariant inside
    (on_ok_weaker c.put.result (λ e. e ∙ ap (λ page. set page (c.from-cell.result % 64) value) c.index_mut.ensures.value) c.put.ensures.written)
    (on_err_weaker c.put.result (λ e. e ∙ c.index_mut.ensures.value) c.put.ensures.unchanged)

pub returns-clause-written : goal.returns-clause-written
returns-clause-written c =
    let pages = c.self.inside.pages.items in
    let count = c.self.inside.count in
    let below = below_count count (cells_on pages) c.args.self.now c.args.cell c.self.view_is c.requires in
    let same = c.from-cell.ensures in
    let inside : c.from-cell.result < count = omega (arith, below, same) in
    let value = to_z w64 (of_z w64 c.args.value) in
    on_ok_weaker c.put.result
    (λ e.
    ap (λ page. take count (cells_on (set pages (c.from-cell.result / 64) page)))
    (e ∙ ap (λ page. set page (c.from-cell.result % 64) value) c.index_mut.ensures.value)
    ∙ put_in_page count c.from-cell.result pages c.index_mut.result.now value c.self.invariant inside
    ∙ ap (λ cells. set cells c.from-cell.result value) c.self.view_is
    ∙ ap (λ cell. set c.args.self.now cell value) same
    ∙ ap (set c.args.self.now c.args.cell) (to_z-of_z w64 c.args.value c.ranges.value))
    c.put.ensures.written
