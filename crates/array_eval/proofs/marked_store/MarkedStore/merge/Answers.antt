use Rattle.std.proofs.Common.{◌≡◌, List, ℕ, length, sym, ap, ◌∙◌}
use Rattle.std.proofs.lemmas.List.{drop_all}
use Rattle.array_meaning.specs.Stores.{Write}
use Rattle.array_eval.specs.Traces.{Trace, noted_all}
use Rattle.array_eval.proofs.OverLemmas.{length_over, length_marks_over}
use Rattle.array_eval.proofs.TraceLemmas.{laid_marks}
use Rattle.array_eval.proofs.marked_store.MarkedStore.merge.Goals as goal

pub returns-clause-laid : goal.returns-clause-laid
returns-clause-laid c =
    let items = c.pairs-cell-items.result.now in
    let store = c.args.self.now in
    let start = c.self.inside.start in
    let copies = c.self.inside.copies in
    let cells : Trace → ℕ = λ trace. length trace.cells in
    let marks : Trace → ℕ = λ trace. length trace.marks in
    let done : List Write → Trace = λ pairs. noted_all pairs c.loop-cell.self in
    let all : List Write → Trace = λ pairs. noted_all pairs store in
    let left : c.loop-cell.self ≡ noted_all c.args.written.now.pairs store =
    sym (ap done (drop_all c.loop-cell.cell-index items c.loop-cell-test.false)) ∙ c.loop-cell.invariant ∙ ap all c.pairs-cell-items.ensures in
    let same : length store.cells ≡ length store.marks =
    sym (ap cells c.self.view_is) ∙ length_over start copies ∙ sym (length_marks_over start copies) ∙ ap marks c.self.view_is in
    laid_marks c.args.written.now.pairs store c.loop-cell.self left same
