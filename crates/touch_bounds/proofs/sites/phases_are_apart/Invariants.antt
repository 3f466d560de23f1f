use Rattle.std.proofs.Common.{drop, map}
use Rattle.array_tree.specs.Trees.{sequence_of, sequences_of, sequences}
use Rattle.array_meaning.specs.Sites.{phase_rounds}
use Rattle.touch_bounds.specs.Ranges.{bounds_of}
use Rattle.touch_bounds.specs.Pieces.{AreAllRoundsApart}
use Rattle.touch_bounds.proofs.sites.phases_are_apart.Given as goal

abbrev pub invariant-loop-phase : goal.invariant-loop-phase
invariant-loop-phase l =
    AreAllRoundsApart l.layout (bounds_of l.ranges) (phase_rounds (sequences (map sequence_of (drop l.phase-index l.phase-items))) l.var l.low l.high l.members) →
    AreAllRoundsApart l.layout (bounds_of l.ranges) (phase_rounds (sequences_of l.phases) l.var l.low l.high l.members)
