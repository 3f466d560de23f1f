use Rattle.std.proofs.Common.{◌≡◌, [], length, ap, subst, ⊎_elim, arith}
use Rattle.std.proofs.lemmas.Bool.Decides.{nat_tests}
use Rattle.array_eval.specs.Layouts.{BeginsAt}
use Rattle.array_eval.proofs.LayoutLemmas.{begins_slot}
use Rattle.array_eval.proofs.layout.Layout.first_of.Goals as goal

pub returns : goal.returns
returns c =
    let inside = c.self.inside in
    let name = c.args.name.now in
    let first = c.index.result.now in
    let known = c.if-is_empty.ensures in
    subst (λ arrays. BeginsAt arrays name first) c.self.view_is
    (⊎_elim
    (λ (none : inside.firsts.items ≡ []). absurd (let e = ap length none in let all = inside.firsts.ok.0 in grind (arith, nat_tests, known)))
    (λ right. begins_slot inside.arrays.now.declarations.items inside.firsts.items inside.cells name c.slot.result first c.self.invariant.sized right c.slot.ensures.slot c.index.ensures)
    c.self.invariant.right)
