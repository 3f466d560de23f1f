use Rattle.array_tree.specs.EqualLaws.{statement_decided}
use Rattle.array_tree.proofs.equal.StmtPartialEq.eq.Goals as goal

pub returns-clause-same : goal.returns-clause-same
returns-clause-same c = statement_decided _ _ _ c.same_statement.ensures
