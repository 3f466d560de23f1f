use Rattle.std.proofs.Common.{◌≡◌, length, sym, ap, ◌∙◌, arith}
use Rattle.array_eval.proofs.OverLemmas.{length_over, length_marks_over}
use Rattle.array_eval.proofs.TraceLemmas.{marks_small}
use Rattle.array_eval.proofs.marked_store.MarkedStore.lay_written.Goals as goal

pub lay_marked-requires-clause-room : goal.lay_marked-requires-clause-room
lay_marked-requires-clause-room c =
    let start = c.self.inside.start in
    let copies = c.self.inside.copies in
    let cells : length c.args.self.now.cells ≡ length start = sym (ap (λ t. length t.cells) c.self.view_is) ∙ length_over start copies in
    let marks : length c.args.self.now.marks ≡ length start = sym (ap (λ t. length t.marks) c.self.view_is) ∙ length_marks_over start copies in
    let small = marks_small c.args.self.now.marks in
    let room = c.requires.room in
    omega (arith, cells, marks, small, room)
