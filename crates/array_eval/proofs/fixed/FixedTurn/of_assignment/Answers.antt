use Rattle.std.proofs.Common.{◌≡◌, [], ap, sym, ◌∙◌, w64}
use Rattle.std.proofs.lemmas.Int.{to_z-of_z}
use Rattle.array_tree.specs.Trees.{expression_of}
use Rattle.array_meaning.specs.Stores.{cell_of, is_dynamic, value_of}
use Rattle.array_eval.specs.Views.{vars_of}
use Rattle.array_eval.proofs.FixedLemmas.{sets_turn, adds_turn}
use Rattle.array_eval.proofs.fixed.FixedTurn.of_assignment.Goals as goal

pub returns-in-Some : goal.returns-in-Some
returns-in-Some c =
    let arrays = c.args.layout.now in
    let vars = vars_of c.args.scope.now in
    let index = expression_of c.args.index.now in
    let led : c.cell-cell.result ≡ cell_of arrays c.args.array.now (is_dynamic index) (value_of arrays vars index []) =
    c.cell-cell.ensures ∙ ap (cell_of arrays c.args.array.now (is_dynamic index))
    (to_z-of_z w64 c.evaluate.result (record { sfits = c.evaluate.type_inv }) ∙ c.evaluate.ensures) in
    adds_turn arrays vars c.args.var.now c.args.array.now index (expression_of c.args.value.now) (expression_of c.in-Some.value.now) c.cell-cell.result
    (sym c.is_dynamic.ensures ∙ c.if-is_dynamic.false) (sym c.names_var.ensures ∙ c.if-names_var.false) led c.in-Some.ensures

pub returns-in-None : goal.returns-in-None
returns-in-None c =
    let arrays = c.args.layout.now in
    let vars = vars_of c.args.scope.now in
    let index = expression_of c.args.index.now in
    let led : c.cell-cell.result ≡ cell_of arrays c.args.array.now (is_dynamic index) (value_of arrays vars index []) =
    c.cell-cell.ensures ∙ ap (cell_of arrays c.args.array.now (is_dynamic index))
    (to_z-of_z w64 c.evaluate.result (record { sfits = c.evaluate.type_inv }) ∙ c.evaluate.ensures) in
    sets_turn arrays vars c.args.var.now c.args.array.now index (expression_of c.args.value.now) c.cell-cell.result
    (sym c.is_dynamic.ensures ∙ c.if-is_dynamic.false) (sym c.names_var.ensures ∙ c.if-names_var.false) led
