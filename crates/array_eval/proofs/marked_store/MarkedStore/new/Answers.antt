use Rattle.std.proofs.Common.{rules, ◌≡◌, false, None, length, replicate, sym, ap, ◌∙◌, subst}
use Rattle.std.proofs.lemmas.List.{length-replicate}
use Rattle.array_eval.specs.Copies.{over_store}
use Rattle.array_eval.specs.Pages.{pages_for, AreChanged}
use Rattle.array_eval.specs.Traces.{fresh, marks_in}
use Rattle.array_eval.proofs.OverLemmas.{over_fresh, none_marked_in}
use Rattle.array_eval.proofs.PageLemmas.{none_changed}
use Rattle.array_eval.proofs.marked_store.MarkedStore.new.Goals as goal

pub invariant_of-result-2 : goal.invariant_of-result-2
invariant_of-result-2 c =
    let start = c.in_ok-copy.field-0 in
    let count = c.count-count.result in
    let pages = c.div_ceil-pages.result in
    let same : count ≡ length start = c.count-count.ensures ∙ ap length (sym c.in_ok-copy.ensures) in
    let none : c.in_ok-copies.copies ≡ replicate pages None = c.in_ok-copies.ensures in
    let over : over_store start c.in_ok-copies.copies ≡ fresh start = ap (over_store start) none ∙ over_fresh start pages in
    let marked : 0 ≡ marks_in (over_store start c.in_ok-copies.copies).marks = sym (ap (λ t. marks_in t.marks) over ∙ none_marked_in (length start)) in
    let many : pages ≡ pages_for (length start) = c.div_ceil-pages.ensures ∙ ap pages_for same in
    let flags : c.in_ok-changed.changed.items ≡ replicate pages false = search rules in
    let changed : AreChanged c.in_ok-changed.changed.items start start = rw (flags, many) (none_changed start) in (
      same,
      ap length c.copies.view_is ∙ ap length none ∙ length-replicate pages None ∙ c.div_ceil-pages.ensures,
      marked ∙ ap (λ copies. marks_in (over_store start copies).marks) (sym c.copies.view_is),
      subst (λ copies. AreChanged c.in_ok-changed.changed.items start (over_store start copies).cells) (sym c.copies.view_is)
          (subst (λ cells. AreChanged c.in_ok-changed.changed.items start cells) (sym (ap (λ t. t.cells) over)) changed),
    )

pub returns : goal.returns
returns c =
    let start = c.in_ok-copy.field-0 in
    let pages = c.div_ceil-pages.result in
    ap (over_store start) (c.copies.view_is ∙ c.in_ok-copies.ensures) ∙ over_fresh start pages ∙ ap fresh c.in_ok-copy.ensures
