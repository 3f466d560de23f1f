use Rattle.std.proofs.Common.{drop, map}
use Rattle.array_tree.specs.Trees.{statement_of, sequence_of, sequences_of, sequence, sequences}
use Rattle.array_meaning.specs.Sites.{sequence_sites, branches_sites, phases_sites}
use Rattle.touch_bounds.specs.Ranges.{bounds_of}
use Rattle.touch_bounds.specs.Pieces.{AreAllSitesApart}
use Rattle.touch_bounds.proofs.sites.+settle.Given as goal

-- All sites are apart if the remaining ones are.
abbrev pub invariant-block_is_settled-loop-statement : goal.invariant-block_is_settled-loop-statement
invariant-block_is_settled-loop-statement l =
    AreAllSitesApart l.layout (bounds_of l.ranges) (sequence_sites (sequence (map statement_of (drop l.statement-index l.statement-items)))) →
    AreAllSitesApart l.layout (bounds_of l.ranges) (sequence_sites (sequence_of l.block))

abbrev pub invariant-branches_are_settled-loop-branch : goal.invariant-branches_are_settled-loop-branch
invariant-branches_are_settled-loop-branch l =
    AreAllSitesApart l.layout (bounds_of l.ranges) (branches_sites (sequences (map sequence_of (drop l.branch-index l.branch-items)))) →
    AreAllSitesApart l.layout (bounds_of l.ranges) (branches_sites (sequences_of l.branches))

abbrev pub invariant-phases_are_settled-loop-phase : goal.invariant-phases_are_settled-loop-phase
invariant-phases_are_settled-loop-phase l =
    AreAllSitesApart l.layout (bounds_of l.ranges) (phases_sites (sequences (map sequence_of (drop l.phase-index l.phase-items))) l.var l.low l.high) →
    AreAllSitesApart l.layout (bounds_of l.ranges) (phases_sites (sequences_of l.phases) l.var l.low l.high)
