use Rattle.std.proofs.Common.{◌≡◌, ◌+◌, ◌%◌, ◌/◌, ◌<◌, true, None, length, get_or, set, w64, refl, sym, ap, ◌∙◌, subst, arith, length-set, to_z, of_z}
use Rattle.std.specs.Prelude.{option_map}
use Rattle.std.proofs.lemmas.Int.{to_z-of_z}
use Rattle.array_eval.specs.Copies.{over_store}
use Rattle.array_eval.specs.Pages.{pages_for, AreChanged}
use Rattle.array_eval.specs.Traces.{Trace, noted, marks_in}
use Rattle.array_eval.proofs.OverLemmas.{cells_over, marks_over, length_over, length_marks_over, mark_over, marks_set, over_written, page_inside}
use Rattle.array_eval.proofs.PageLemmas.{one_changed}
use Rattle.array_eval.proofs.TraceLemmas.{marks_small}
use Rattle.array_eval.proofs.marked_store.MarkedStore.write.Goals as goal

pub overflow_add-self : goal.overflow_add-self
overflow_add-self c =
    let start = c.self.inside.start in
    let copies = c.copy_page.new.copies in
    let cell = c.args.cell in
    let test = c.if-cell-self.true in
    let same = c.self.invariant.0 in
    let inside : cell < length start = omega (arith, same, test) in
    let marks = marks_over start copies in
    let long = length_marks_over start copies in
    let was = mark_over start copies cell (get_or copies (cell / 64) None) c.write-before.result refl c.write-before.ensures.before inside in
    let more = marks_set marks cell c.write-before.result (omega (arith, long, inside)) was in
    let small = marks_small (set marks cell true) in
    let kept = length-set marks cell true in
    let counted : c.self.inside.marked ≡ marks_in marks = c.self.invariant.2 ∙ ap (λ t. marks_in t.marks) (sym c.copy_page.ensures.same) in
    let one = c.from.ensures in
    omega (arith, long, same, more, small, kept, counted, one)

pub invariant_of-self : goal.invariant_of-self
invariant_of-self c =
    let start = c.self.inside.start in
    let copies = c.copy_page.new.copies in
    let cell = c.args.cell in
    let value = to_z w64 (of_z w64 c.args.value) in
    let test = c.if-cell-self.true in
    let same = c.self.invariant.0 in
    let inside : cell < length start = omega (arith, same, test) in
    let as_many : length copies ≡ pages_for (length start) = c.copy_page.ensures.whole ∙ c.self.invariant.1 ∙ ap pages_for same in
    let there = page_inside (length start) cell (length copies) as_many inside in
    let page = get_or copies (cell / 64) None in
    let new : over_store start c.write-before.new.self ≡ noted cell value (over_store start copies) =
    ap (over_store start) c.write-before.ensures.noted
    ∙ over_written start copies cell value page refl c.copy_page.ensures.some c.write-before.ensures.whole there inside in
    let before : over_store start copies ≡ over_store start c.self.inside.copies = c.copy_page.ensures.same in
    let marks = marks_over start copies in
    let long = length_marks_over start copies in
    let was = mark_over start copies cell page c.write-before.result refl c.write-before.ensures.before inside in
    let more = marks_set marks cell c.write-before.result (omega (arith, long, inside)) was in
    let counted : c.self.inside.marked ≡ marks_in marks = c.self.invariant.2 ∙ ap (λ t. marks_in t.marks) (sym before) in
    let one = c.from.ensures in
    let now : c.self.inside.marked + c.from.result ≡ marks_in (set marks cell true) = omega (arith, more, counted, one) in
    let cells : Trace → Type 0 = λ t. AreChanged (set c.self.inside.changed.items (cell / 64) true) start t.cells in
    let old : AreChanged c.self.inside.changed.items start (cells_over start copies) =
    subst (λ t. AreChanged c.self.inside.changed.items start t.cells) (sym before) c.self.invariant.3 in
    let over = length_over start copies in
    let changed : cells (over_store start c.write-before.new.self) =
    subst cells (sym new) (one_changed c.self.inside.changed.items start (cells_over start copies) cell value old (omega (arith, over, inside))) in (
      same,
      ap length c.write-before.ensures.noted ∙ length-set copies (cell / 64) (option_map (noted (cell % 64) value) page) ∙ c.copy_page.ensures.whole ∙ c.self.invariant.1,
      now ∙ ap (λ t. marks_in t.marks) (sym new),
      subst (λ flags. AreChanged flags start (cells_over start c.write-before.new.self)) (sym c.flag.ensures) changed,
    )

pub returns-then-cell-self : goal.returns-then-cell-self
returns-then-cell-self c =
    let start = c.self.inside.start in
    let copies = c.copy_page.new.copies in
    let cell = c.args.cell in
    let value = to_z w64 (of_z w64 c.args.value) in
    let test = c.if-cell-self.true in
    let same = c.self.invariant.0 in
    let inside : cell < length start = omega (arith, same, test) in
    let as_many : length copies ≡ pages_for (length start) = c.copy_page.ensures.whole ∙ c.self.invariant.1 ∙ ap pages_for same in
    let there = page_inside (length start) cell (length copies) as_many inside in
    ap (over_store start) c.write-before.ensures.noted
    ∙ over_written start copies cell value (get_or copies (cell / 64) None) refl c.copy_page.ensures.some c.write-before.ensures.whole there inside
    ∙ ap (noted cell value) (c.copy_page.ensures.same ∙ c.self.view_is)
    ∙ ap (λ v. noted cell v c.args.self.now) (to_z-of_z w64 c.args.value c.ranges.value)
