use Rattle.std.proofs.Common.{◌≡◌, length, take, sym, ap, ◌∙◌, subst}
use Rattle.array_eval.specs.Pages.{cells_on, ArePages}
use Rattle.array_eval.proofs.PageLemmas.{length_seen}
use Rattle.array_eval.proofs.paged.Paged.changed_to.Goals as goal

pub invariant_of-result : goal.invariant_of-result
invariant_of-result c =
    let seen : c.self.inside.count ≡ length c.args.self.now = sym (length_seen c.self.inside.count c.self.inside.pages.items c.self.invariant) ∙ ap length c.self.view_is in
    subst (λ n. ArePages n c.in_ok-lay_out.field-0.items) (sym seen) c.in_ok-lay_out.ensures.pages

pub returns : goal.returns
returns c =
    let seen : c.self.inside.count ≡ length c.args.self.now = sym (length_seen c.self.inside.count c.self.inside.pages.items c.self.invariant) ∙ ap length c.self.view_is in
    ap (λ n. take n (cells_on c.in_ok-lay_out.field-0.items)) seen ∙ c.in_ok-lay_out.ensures.same
