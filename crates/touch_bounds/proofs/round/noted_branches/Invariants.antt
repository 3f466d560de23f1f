use Rattle.std.proofs.Common.{drop, map}
use Rattle.array_tree.specs.Trees.{sequence_of, sequences_of, sequences}
use Rattle.array_meaning.specs.Sites.{branch_works}
use Rattle.array_meaning.specs.Stores.{Vars}
use Rattle.touch_bounds.specs.Ranges.{bounds_of, AreWithin}
use Rattle.touch_bounds.proofs.RoundLemmas.{Completes}
use Rattle.touch_bounds.proofs.round.noted_branches.Given as goal

abbrev pub invariant-loop-branch : goal.invariant-loop-branch
invariant-loop-branch l =
    (vars : Vars) → AreWithin (bounds_of l.ranges) vars →
    Completes l.layout l.pieces.items (branch_works (sequences (map sequence_of (drop l.branch-index l.branch-items))) vars) (branch_works (sequences_of l.branches) vars)
