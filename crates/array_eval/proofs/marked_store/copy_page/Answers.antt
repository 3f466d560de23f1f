use Rattle.std.proofs.Common.{◌≡◌, None, get_or, sym, ap, ◌∙◌}
use Rattle.array_eval.specs.Copies.{over_store}
use Rattle.array_eval.proofs.OverLemmas.{none_there, over_copied}
use Rattle.array_eval.proofs.marked_store.copy_page.Goals as goal

pub returns-then-is_none-clause-same : goal.returns-then-is_none-clause-same
returns-then-is_none-clause-same c =
    let copies = c.args.copies.now in
    let number = c.args.number in
    let none : get_or copies number None ≡ None = sym c.get.ensures ∙ none_there (λ page. page.now) c.get.result c.if-is_none.ensures in
    ap (over_store c.args.start.now) c.add.ensures
    ∙ over_copied c.args.start.now copies number c.page.result.now c.requires.there none c.page.ensures.same
