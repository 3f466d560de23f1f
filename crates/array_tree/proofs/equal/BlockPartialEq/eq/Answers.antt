use Rattle.array_tree.specs.EqualLaws.{sequence_decided}
use Rattle.array_tree.proofs.equal.BlockPartialEq.eq.Goals as goal

pub returns-clause-same : goal.returns-clause-same
returns-clause-same c = sequence_decided _ _ _ c.same_block.ensures
