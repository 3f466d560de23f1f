use Rattle.std.proofs.Common.{arith, rules}
use Rattle.board_tests.proofs.roaming.roam.Goals as goal

pub returns-clause-same : goal.returns-clause-same
returns-clause-same g c k d below = let post = (c.for_each_mut.ensures k d below).1 in first_of (search rules, grind arith)
