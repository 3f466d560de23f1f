use Rattle.std.proofs.Common.{◌≡◌, length, ap, sym, ◌∙◌, arith, subst}
use Rattle.std.proofs.lemmas.Option.{IfSome_then}
use Rattle.array_tree.specs.Trees.{Assign, followed, ended, expression_of, statement_of, sequence_of}
use Rattle.array_eval.specs.Fixed.{IsTurnOf}
use Rattle.array_eval.specs.Views.{vars_of}
use Rattle.array_eval.proofs.FixedLemmas.{assignment, one_statement}
use Rattle.array_eval.proofs.fixed.FixedTurn.of.Goals as goal

pub returns-in-Assign : goal.returns-in-Assign
returns-in-Assign c =
    let one : length c.args.body.now.statements.items ≡ 1 = omega (arith, c.len.ensures, c.if-len-ne1.false) in
    let only = c.in-Assign in
    let same : sequence_of c.args.body.now ≡ followed (Assign only.line only.array (expression_of only.index) (expression_of only.value)) ended =
    one_statement c.args.body.now c.index.result.now one ∙ ap (λ s. followed (statement_of s) ended) (sym c.index.ensures ∙ only.is)
    ∙ ap (λ s. followed s ended) (assignment only.line only.array only.index only.value) in
    IfSome_then c.of_assignment.result c.of_assignment.ensures
    (λ turn is. subst (IsTurnOf c.args.layout.now turn c.args.var.now (vars_of c.args.scope.now)) (sym same) (is only.line))
