use Rattle.array_tree.specs.EqualLaws.{sequences_decided}
use Rattle.array_tree.proofs.equal.BlocksPartialEq.eq.Goals as goal

pub returns-clause-same : goal.returns-clause-same
returns-clause-same c = sequences_decided _ _ _ c.same_blocks.ensures
