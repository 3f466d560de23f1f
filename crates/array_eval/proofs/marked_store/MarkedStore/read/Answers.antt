use Rattle.std.proofs.Common.{◌≡◌, ◌%◌, ◌/◌, ◌<◌, w64, Some, None, length, get_or, pos, sym, ap, ◌∙◌, arith}
use Rattle.std.specs.Prelude.{option_map}
use Rattle.std.proofs.lemmas.Int.{to_z-of_z}
use Rattle.array_meaning.specs.Stores.{at_cell}
use Rattle.array_eval.specs.Copies.{seen_in}
use Rattle.array_eval.proofs.CopyLemmas.{seen_at}
use Rattle.array_eval.proofs.OverLemmas.{value_in}
use Rattle.array_eval.proofs.marked_store.MarkedStore.read.Goals as goal

pub returns-in-Some : goal.returns-in-Some
returns-in-Some c =
    let start = c.self.inside.start in
    let copies = c.self.inside.copies in
    let cell = c.args.cell in
    let same = c.self.invariant.0 in
    let test = c.if-cell-self.true in
    let inside : cell < length start = omega (arith, same, test) in
    let at : get_or copies (cell / 64) None ≡ Some c.in-Some.page.now = sym c.get.ensures ∙ ap (option_map (λ page. page.now)) c.in-Some.is in
    to_z-of_z w64 c.get-in-Some.result (record { sfits = c.get-in-Some.type_inv }) ∙ c.get-in-Some.ensures
    ∙ sym (seen_at value_in (at_cell start) copies (length start) cell (pos 0) inside
    ∙ ap (seen_in (λ page. value_in page (cell % 64)) (at_cell start cell)) at)
    ∙ ap (λ t. get_or t.cells cell (pos 0)) c.self.view_is

pub returns-in-None : goal.returns-in-None
returns-in-None c =
    let start = c.self.inside.start in
    let copies = c.self.inside.copies in
    let cell = c.args.cell in
    let same = c.self.invariant.0 in
    let test = c.if-cell-self.true in
    let inside : cell < length start = omega (arith, same, test) in
    let at : get_or copies (cell / 64) None ≡ None = sym c.get.ensures ∙ ap (option_map (λ page. page.now)) c.in-None.is in
    to_z-of_z w64 c.read.result (record { sfits = c.read.type_inv }) ∙ c.read.ensures
    ∙ sym (seen_at value_in (at_cell start) copies (length start) cell (pos 0) inside
    ∙ ap (seen_in (λ page. value_in page (cell % 64)) (at_cell start cell)) at)
    ∙ ap (λ t. get_or t.cells cell (pos 0)) c.self.view_is
