use Rattle.std.proofs.Common.{◌<◌, All}
use Rattle.task_tests.proofs.trees.branches_of.Given as goal

abbrev pub invariant-branches : goal.invariant-branches
invariant-branches l = All (λ branch. branch.levels < l.tree.levels) l.branches.items
