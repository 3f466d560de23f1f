use Rattle.std.proofs.Common.{◌≡◌, map, get_or, Some, None, w64, sym, ap, ◌∙◌, subst}
use Rattle.std.proofs.lemmas.Int.{to_z-of_z}
use Rattle.std.specs.Prelude.{IfSome, IsSome, option_map}
use Rattle.array_eval.specs.Copies.{copy_at, mark_at, changed_copy, IsWhole}
use Rattle.array_eval.specs.Traces.{noted}
use Rattle.array_eval.proofs.CopyLemmas.{at_zero, copy_was, copy_written, is_inside}
use Rattle.array_eval.proofs.copies.Copies.write.Goals as goal

pub returns-clause-noted : goal.returns-clause-noted
returns-clause-noted c =
    let slots = c.self.inside.slots.items in
    let pages = c.self.inside.pages.items in
    let number = c.args.number in
    let slot = c.index-slot.result.now in
    let some : IsSome (get_or (map (copy_at pages) slots) number None) = rw c.self.view_is c.requires.copied in
    let inside = is_inside pages slots number some in
    let at : slot ≡ get_or slots number 0 = at_zero slots number slot inside c.index-slot.ensures in
    copy_written pages slots number slot (noted c.args.place c.args.value) c.index_mut.result.now c.write.new.self c.self.invariant.0 inside at some c.index_mut.ensures.value
    (c.write.ensures.noted ∙ ap (λ v. noted c.args.place v c.index_mut.result.now) (to_z-of_z w64 c.args.value c.ranges.value))
    ∙ ap (changed_copy (noted c.args.place c.args.value) number) c.self.view_is

pub returns-clause-before : goal.returns-clause-before
returns-clause-before c =
    let slots = c.self.inside.slots.items in
    let pages = c.self.inside.pages.items in
    let number = c.args.number in
    let slot = c.index-slot.result.now in
    let some : IsSome (get_or (map (copy_at pages) slots) number None) = rw c.self.view_is c.requires.copied in
    let inside = is_inside pages slots number some in
    let at : slot ≡ get_or slots number 0 = at_zero slots number slot inside c.index-slot.ensures in
    ap (λ copies. option_map (λ page. mark_at page.marks c.args.place) (get_or copies number None)) (sym c.self.view_is)
    ∙ ap (option_map (λ page. mark_at page.marks c.args.place)) (copy_was pages slots number slot c.index_mut.result.now c.self.invariant.0 at some c.index_mut.ensures.value)
    ∙ ap Some (sym c.write.ensures.before)

pub returns-clause-whole : goal.returns-clause-whole
returns-clause-whole c =
    let slots = c.self.inside.slots.items in
    let pages = c.self.inside.pages.items in
    let number = c.args.number in
    let slot = c.index-slot.result.now in
    let some : IsSome (get_or (map (copy_at pages) slots) number None) = rw c.self.view_is c.requires.copied in
    let inside = is_inside pages slots number some in
    let at : slot ≡ get_or slots number 0 = at_zero slots number slot inside c.index-slot.ensures in
    let is : get_or c.args.self.now number None ≡ Some c.index_mut.result.now
    = ap (λ copies. get_or copies number None) (sym c.self.view_is)
    ∙ copy_was pages slots number slot c.index_mut.result.now c.self.invariant.0 at some c.index_mut.ensures.value in
    subst (λ o. IfSome o IsWhole) (sym is) c.write.ensures.whole
