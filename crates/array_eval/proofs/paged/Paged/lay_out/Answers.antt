use Rattle.std.proofs.Common.{◌≡◌, ◌*◌, ◌+◌, ◌<◌, ◌≤◌, ◌∷◌, [], length, take, drop, sym, ap, ◌∙◌, subst, List, ℤ, arith}
use Rattle.std.proofs.lemmas.List.{length-append, length-take}
use Rattle.array_eval.specs.Pages.{cells_on, page_at, padded, pages_for, ArePages}
use Rattle.array_eval.proofs.OverLemmas.{cells_over, length_over}
use Rattle.array_eval.proofs.PageLemmas.{AreWhole, filled, laid_next, whole_push, laid_pages, laid_cells, length_seen}
use Rattle.array_eval.proofs.paged.Paged.lay_out.Goals as goal

pub page_over-requires-clause-number : goal.page_over-requires-clause-number
page_over-requires-clause-number c =
    let count = c.self.inside.count in
    let pages = c.self.inside.pages.items in
    let seen : count ≡ length c.args.self.now = sym (length_seen count pages c.self.invariant) ∙ ap length c.self.view_is in
    let many : length pages ≡ pages_for (length c.args.self.now) = c.self.invariant.fewest ∙ ap pages_for seen in
    let test = c.loop-number-test.true in
    omega (arith, many, test)

pub loop-number-preserved : goal.loop-number-preserved
loop-number-preserved c =
    let store = c.args.self.now in
    let cells = cells_over store c.args.copies.now in
    let number = c.loop-number.number in
    let count = c.self.inside.count in
    let seen : count ≡ length store = sym (length_seen count c.self.inside.pages.items c.self.invariant) ∙ ap length c.self.view_is in
    let over : length store ≡ length cells = sym (length_over store c.args.copies.now) in
    let many : length c.self.inside.pages.items ≡ pages_for (length cells) = c.self.invariant.fewest ∙ ap pages_for (seen ∙ over) in
    let test = c.loop-number-test.true in
    let inside : number < pages_for (length cells) = omega (arith, many, test) in
    let pushed = c.in_ok-push.ensures.items in
    let page = c.in_ok-page_over.field-0 in
    let here : page ≡ padded (page_at number cells) = c.in_ok-page_over.ensures in
    let taken = length-take 64 (drop (64 * number) cells) in
    let few : length (page_at number cells) ≤ 64 = omega (arith, taken) in
    let P : List (List ℤ) → Type 0 = λ pages. AreWhole pages in
    record {
      laid = ap cells_on pushed ∙ laid_next cells number c.loop-number.pages.items page inside c.loop-number.invariant.laid here;
      whole = subst P (sym pushed) (whole_push c.loop-number.pages.items (page_at number cells) page c.loop-number.invariant.whole here few);
      many = ap length pushed ∙ length-append c.loop-number.pages.items (page ∷ []) ∙ ap (λ n. n + 1) c.loop-number.invariant.many;
    }

pub returns-clause-pages : goal.returns-clause-pages
returns-clause-pages c =
    let store = c.args.self.now in
    let cells = cells_over store c.args.copies.now in
    let count = c.self.inside.count in
    let pages = c.loop-number.pages.items in
    let seen : count ≡ length store = sym (length_seen count c.self.inside.pages.items c.self.invariant) ∙ ap length c.self.view_is in
    let over : length store ≡ length cells = sym (length_over store c.args.copies.now) in
    let many : length c.self.inside.pages.items ≡ pages_for (length cells) = c.self.invariant.fewest ∙ ap pages_for (seen ∙ over) in
    let done = c.loop-number-test.false in
    let within = c.loop-number.auto.number-end in
    let all : c.loop-number.number ≡ pages_for (length cells) = omega (arith, many, done, within) in
    subst (λ n. ArePages n pages) (sym over)
    (laid_pages cells pages (c.loop-number.invariant.laid ∙ ap (λ n. take (64 * n) (filled cells)) all) c.loop-number.invariant.whole (c.loop-number.invariant.many ∙ all))

pub returns-clause-same : goal.returns-clause-same
returns-clause-same c =
    let store = c.args.self.now in
    let cells = cells_over store c.args.copies.now in
    let count = c.self.inside.count in
    let pages = c.loop-number.pages.items in
    let seen : count ≡ length store = sym (length_seen count c.self.inside.pages.items c.self.invariant) ∙ ap length c.self.view_is in
    let over : length store ≡ length cells = sym (length_over store c.args.copies.now) in
    let many : length c.self.inside.pages.items ≡ pages_for (length cells) = c.self.invariant.fewest ∙ ap pages_for (seen ∙ over) in
    let done = c.loop-number-test.false in
    let within = c.loop-number.auto.number-end in
    let all : c.loop-number.number ≡ pages_for (length cells) = omega (arith, many, done, within) in
    ap (λ n. take n (cells_on pages)) over ∙ laid_cells cells pages (c.loop-number.invariant.laid ∙ ap (λ n. take (64 * n) (filled cells)) all)
