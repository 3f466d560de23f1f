use Rattle.std.proofs.Common.{◌≡◌, length, sym, ap, ◌∙◌, arith}
use Rattle.array_eval.proofs.OverLemmas.{length_over, length_marks_over, marks_over}
use Rattle.array_eval.proofs.TraceLemmas.{marks_small}
use Rattle.array_eval.proofs.marked_store.MarkedStore.written.Goals as goal

pub overflow_cast-self-inside : goal.overflow_cast-self-inside
overflow_cast-self-inside c =
    let start = c.self.inside.start in
    let copies = c.self.inside.copies in
    let cells : length c.args.self.now.cells ≡ length start = sym (ap (λ t. length t.cells) c.self.view_is) ∙ length_over start copies in
    let marks = length_marks_over start copies in
    let small = marks_small (marks_over start copies) in
    let counted = c.self.invariant.2 in
    let few = c.requires in
    omega (arith, cells, marks, small, counted, few)
