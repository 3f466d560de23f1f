use Rattle.std.proofs.Common.{rules, ◌≡◌, false, length, replicate, sym, ap, ◌∙◌, subst}
use Rattle.array_eval.specs.Copies.{over_store}
use Rattle.array_eval.specs.Pages.{pages_for, AreChanged}
use Rattle.array_eval.specs.Traces.{marks_in}
use Rattle.array_eval.proofs.OverLemmas.{cells_over, length_over, over_taken}
use Rattle.array_eval.proofs.PageLemmas.{none_changed}
use Rattle.array_eval.proofs.marked_store.MarkedStore.to_store.Goals as goal

pub invariant_of-self : goal.invariant_of-self
invariant_of-self c =
    let start = c.self.inside.start in
    let copies = c.self.inside.copies in
    let next = c.in_ok-self-inside.field-0 in
    let is : next ≡ cells_over start copies = c.in_ok-self-inside.ensures ∙ c.in_ok-store.ensures in
    let over : over_store next copies ≡ over_store start copies = over_taken start next copies is in
    let many : length c.self.inside.changed.items ≡ pages_for (length next) = c.self.invariant.3.marks ∙ ap (λ cells. pages_for (length cells)) (sym is) in
    let flags : c.fill.new.self.items ≡ replicate (length c.self.inside.changed.items) false = search rules in
    let changed : AreChanged c.fill.new.self.items next next = rw (flags, many) (none_changed next) in (
      c.self.invariant.0 ∙ sym (ap length is ∙ length_over start copies),
      c.self.invariant.1,
      c.self.invariant.2 ∙ ap (λ t. marks_in t.marks) (sym over),
      subst (λ cells. AreChanged c.fill.new.self.items next cells) (is ∙ ap (λ t. t.cells) (sym over)) changed,
    )

pub returns-clause-same : goal.returns-clause-same
returns-clause-same c =
    let start = c.self.inside.start in
    let copies = c.self.inside.copies in
    over_taken start c.in_ok-self-inside.field-0 copies (c.in_ok-self-inside.ensures ∙ c.in_ok-store.ensures) ∙ c.self.view_is
