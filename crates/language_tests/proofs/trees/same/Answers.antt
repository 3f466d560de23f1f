use Rattle.array_tree.specs.EqualLaws.{program_decided}
use Rattle.language_tests.proofs.trees.same.Goals as goal

pub returns : goal.returns
returns c = program_decided _ _ _ c.eq.ensures
