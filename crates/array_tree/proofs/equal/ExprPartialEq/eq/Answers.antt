use Rattle.array_tree.specs.EqualLaws.{expression_decided}
use Rattle.array_tree.proofs.equal.ExprPartialEq.eq.Goals as goal

pub returns-clause-same : goal.returns-clause-same
returns-clause-same c = expression_decided _ _ _ c.same_expression.ensures
