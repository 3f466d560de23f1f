use Rattle.std.proofs.Common.{ℕ, ◌<◌}
use Rattle.array_tree.specs.Trees.{sequences_of}
use Rattle.array_meaning.specs.Sites.{phase_rounds}
use Rattle.touch_bounds.specs.Ranges.{bounds_of}
use Rattle.pipe_walk.specs.Inside.Stretches.{IsMemberAlwaysClear}
use Rattle.pipe_walk.proofs.stretches.each_is_clear.Given as goal

abbrev pub invariant-loop-member : goal.invariant-loop-member
invariant-loop-member l =
    (j : ℕ) → j < l.member → IsMemberAlwaysClear l.layout (bounds_of l.ranges) j (phase_rounds (sequences_of l.phases) l.turns.var.now l.turns.low l.turns.high l.members)
