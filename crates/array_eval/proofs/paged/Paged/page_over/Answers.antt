use Rattle.std.proofs.Common.{◌≡◌, ◌-◌, ◌*◌, ◌<◌, Some, None, length, take, get_or, sym, ap, ◌∙◌, arith}
use Rattle.std.specs.Prelude.{option_map, min}
use Rattle.std.proofs.lemmas.Result.{IfOk-weaker}
use Rattle.array_eval.specs.Pages.{page_at, padded, pages_for}
use Rattle.array_eval.proofs.OverLemmas.{cells_over, page_copied, page_bare}
use Rattle.array_eval.proofs.PageLemmas.{length_seen, no_flag, page_seen}
use Rattle.array_eval.proofs.paged.Paged.page_over.Goals as goal
use Rattle.array_eval.proofs.paged.Paged.page_over.Goals.{in_default-via-in-Some+else-changed-number, in_default-via-in_default}

pub returns-in-Some : goal.returns-in-Some
returns-in-Some c =
    let store = c.args.self.now in
    let copies = c.args.copies.now in
    let number = c.args.number in
    let count = c.self.inside.count in
    let own = c.in-Some.own.now in
    let seen : count ≡ length store = sym (length_seen count c.self.inside.pages.items c.self.invariant) ∙ ap length c.self.view_is in
    let at : get_or copies number None ≡ Some own = sym c.get.ensures ∙ ap (option_map (λ page. page.now)) c.in-Some.is in
    let whole : length own.cells ≡ 64 = ap length (sym c.cells.ensures.same) ∙ c.cells.ensures.whole in
    let few : c.min-few.result ≡ min (length store - 64 * number) 64 = c.min-few.ensures ∙ ap (λ n. min (n - 64 * number) 64) seen in
    let same : take c.min-few.result c.cells.result.now ≡ page_at number (cells_over store copies) =
    ap (take c.min-few.result) c.cells.ensures.same ∙ page_copied store copies number c.min-few.result own at whole few in
    IfOk-weaker c.new.result (λ page. page ≡ padded (take c.min-few.result c.cells.result.now)) (λ page. page ≡ padded (page_at number (cells_over store copies)))
    (λ page e. e ∙ ap padded same) c.new.ensures

pub returns-in_default : goal.returns-in_default
returns-in_default c =
    let store = c.args.self.now in
    let copies = c.args.copies.now in
    let number = c.args.number in
    let count = c.self.inside.count in
    let pages = c.self.inside.pages.items in
    let seen : count ≡ length store = sym (length_seen count pages c.self.invariant) ∙ ap length c.self.view_is in
    let many : length pages ≡ pages_for (length store) = c.self.invariant.fewest ∙ ap pages_for seen in
    let there : number < length pages = omega (arith, many, c.requires.number) in
    let flags = c.requires.changed.marks in
    let same : page_at number store ≡ page_at number (cells_over store copies) = elim c.in_default.branch [
      | in_default-via-in-Some+else-changed-number w ↦ c.requires.changed.kept number (no_flag c.args.changed.now number (omega (arith, flags, c.requires.number)) w.if-changed-number.false)
      | in_default-via-in_default w ↦ page_bare store copies number (sym c.get.ensures ∙ ap (option_map (λ page. page.now)) w.in_default.is)
    ] in
    let is = c.index.ensures ∙ page_seen count number pages c.index.result.now c.self.invariant there
    ∙ ap (λ cells. padded (page_at number cells)) c.self.view_is ∙ ap padded same in
    IfOk-weaker c.copy.result (λ page. page ≡ c.index.result.now) (λ page. page ≡ padded (page_at number (cells_over store copies)))
    (λ page e. e ∙ is) c.copy.ensures
