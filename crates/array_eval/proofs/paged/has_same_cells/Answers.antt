use Rattle.std.proofs.Common.{take, length, sym, ap, ◌∙◌, subst, ℕ}
use Rattle.std.proofs.lemmas.Bool.Decides.{Decides-eqb}
use Rattle.std.proofs.lemmas.Slice.Eq.{slice_eq-Decides}
use Rattle.array_eval.specs.EqualLaws.{store_decides}
use Rattle.array_eval.specs.Pages.{cells_on, ArePages}
use Rattle.array_eval.proofs.PageLemmas.{pages_decide, length_seen}
use Rattle.array_eval.proofs.paged.has_same_cells.Goals as goal

pub returns-then-a-b : goal.returns-then-a-b
returns-then-a-b c =
    let ps = c.a.inside.pages.items in
    let qs = c.b.inside.pages.items in
    let many = c.if-a-b.true in
    let seen = sym (ap (λ n. take n (cells_on ps)) many) ∙ c.a.view_is in
    let P : ℕ → Type 0 = λ n. ArePages n ps in
    let decides = slice_eq-Decides store_decides ps qs c.eq.result c.eq.ensures in (
      (λ t. sym seen ∙ ap (λ pages. take c.b.inside.count (cells_on pages)) (decides.0 t) ∙ c.b.view_is),
      (λ e. decides.1 (pages_decide c.b.inside.count ps qs (subst P many c.a.invariant) c.b.invariant (seen ∙ e ∙ sym c.b.view_is))),
    )

pub returns-else-a-b : goal.returns-else-a-b
returns-else-a-b c =
    let ps = c.a.inside.pages.items in
    let qs = c.b.inside.pages.items in (
      (λ t. absurd (c.if-a-b.false ((Decides-eqb c.a.inside.count c.b.inside.count).0 t))),
      (λ e. absurd (c.if-a-b.false
          (sym (length_seen c.a.inside.count ps c.a.invariant) ∙ ap length (c.a.view_is ∙ e ∙ sym c.b.view_is) ∙ length_seen c.b.inside.count qs c.b.invariant))),
    )
