use Rattle.table_laws.proofs.Runs.{plans_are_trees}
use Rattle.table_laws.proofs.plans_are_trees.Goals as goal

pub returns : goal.returns
returns c = plans_are_trees
