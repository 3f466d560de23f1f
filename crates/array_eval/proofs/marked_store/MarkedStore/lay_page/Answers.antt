use Rattle.std.proofs.Common.{◌≡◌, ◌+◌, ◌-◌, ◌*◌, ◌<◌, true, false, Some, None, pos, w64, get_or, length, sym, ap, ◌∙◌, arith}
use Rattle.std.specs.Prelude.{option_map}
use Rattle.std.proofs.lemmas.Int.{to_z-of_z}
use Rattle.array_meaning.specs.Pieces.{lay}
use Rattle.array_meaning.specs.Stores.{at_cell}
use Rattle.array_eval.proofs.MarkLemmas.{count_next, lay_cell, leave_cell, pass_cells}
use Rattle.array_eval.proofs.OverLemmas.{length_over, length_marks_over, cell_over, mark_of_copy, unmarked_over}
use Rattle.array_eval.proofs.marked_store.MarkedStore.lay_page.Goals as goal
use Rattle.array_eval.proofs.marked_store.MarkedStore.lay_page.Goals.{then-is_marked, else-is_marked}

pub append-requires-clause-room : goal.append-requires-clause-room
append-requires-clause-room c =
    let start = c.self.inside.start in
    let copies = c.self.inside.copies in
    let number = c.args.number in
    let marks = c.args.self.now.marks in
    let cell = c.loop-cell.cell in
    let page = c.in-Some.page.now in
    let at : get_or copies number None ≡ Some page = sym c.get.ensures ∙ ap (option_map (λ page. page.now)) c.in-Some.is in
    let count = c.self.invariant.0 in
    let test = c.loop-cell-test.true in
    let end = c.min-cell-end.ensures in
    let low = c.loop-cell.auto.cell in
    let inside : cell < length start = omega (arith, test, end, count) in
    let long : length marks ≡ length start = sym (ap (λ t. length t.marks) c.self.view_is) ∙ length_marks_over start copies in
    let is : get_or marks cell false ≡ true
    = sym (ap (λ t. get_or t.marks cell false) c.self.view_is)
    ∙ mark_of_copy start copies number cell page at low (omega (arith, test, end)) inside ∙ sym c.is_marked.ensures ∙ c.if-is_marked.true in
    let next = count_next marks cell (omega (arith, long, inside)) is in
    let room = c.loop-cell.invariant.room in
    omega (arith, next, room)

pub loop-cell-preserved : goal.loop-cell-preserved
loop-cell-preserved c =
    let start = c.self.inside.start in
    let copies = c.self.inside.copies in
    let number = c.args.number in
    let cells = c.args.self.now.cells in
    let marks = c.args.self.now.marks in
    let cell = c.loop-cell.cell in
    let old = c.loop-cell.overlay in
    let page = c.in-Some.page.now in
    let at : get_or copies number None ≡ Some page = sym c.get.ensures ∙ ap (option_map (λ page. page.now)) c.in-Some.is in
    let count = c.self.invariant.0 in
    let test = c.loop-cell-test.true in
    let end = c.min-cell-end.ensures in
    let low = c.loop-cell.auto.cell in
    let high : cell < 64 * number + 64 = omega (arith, test, end) in
    let inside : cell < length start = omega (arith, test, end, count) in
    let long : length cells ≡ length start = sym (ap (λ t. length t.cells) c.self.view_is) ∙ length_over start copies in
    let long_too : length marks ≡ length start = sym (ap (λ t. length t.marks) c.self.view_is) ∙ length_marks_over start copies in
    let same : length cells ≡ length marks = long ∙ sym long_too in
    let mark : get_or marks cell false ≡ c.is_marked.result
    = sym (ap (λ t. get_or t.marks cell false) c.self.view_is)
    ∙ mark_of_copy start copies number cell page at low high inside ∙ sym c.is_marked.ensures in
    let value : at_cell page.cells (cell - 64 * number) ≡ get_or cells cell (pos 0)
    = sym (cell_over start copies number cell page at low high inside) ∙ ap (λ t. get_or t.cells cell (pos 0)) c.self.view_is in
    elim c.if-is_marked.branch [
      | then-is_marked w ↦
          (let laid : c.if-is_marked.overlay.pairs ≡ lay cell (get_or cells cell (pos 0)) old.pairs
          = ap (λ o. o.pairs) w.overlay-is ∙ w.append.ensures.pairs ∙ ap (λ v. lay cell v old.pairs)
          (to_z-of_z w64 w.get-then-is_marked.result (record { sfits = w.get-then-is_marked.type_inv }) ∙ w.get-then-is_marked.ensures ∙ value) in
          lay_cell cells marks cell old c.if-is_marked.overlay same (omega (arith, long, inside)) (mark ∙ w.if-is_marked.true) laid
          (ap (λ o. o.room) w.overlay-is ∙ w.append.ensures.room) c.loop-cell.invariant)
      | else-is_marked w ↦
          leave_cell cells marks cell old c.if-is_marked.overlay same (mark ∙ w.if-is_marked.false) w.overlay-is c.loop-cell.invariant
    ]

pub returns-in_default : goal.returns-in_default
returns-in_default c =
    let start = c.self.inside.start in
    let copies = c.self.inside.copies in
    let number = c.args.number in
    let cells = c.args.self.now.cells in
    let marks = c.args.self.now.marks in
    let long : length cells ≡ length start = sym (ap (λ t. length t.cells) c.self.view_is) ∙ length_over start copies in
    let long_too : length marks ≡ length start = sym (ap (λ t. length t.marks) c.self.view_is) ∙ length_marks_over start copies in
    let at : get_or copies number None ≡ None = sym c.get.ensures ∙ ap (option_map (λ page. page.now)) c.in_default.is in
    pass_cells 64 cells marks (64 * number) c.args.overlay.now (long ∙ sym long_too)
    (λ k h. sym (ap (λ t. get_or t.marks (64 * number + k) false) c.self.view_is) ∙ unmarked_over start copies number k at h) c.requires.laid
