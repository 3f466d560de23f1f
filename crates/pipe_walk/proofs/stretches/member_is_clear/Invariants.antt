use Rattle.touch_bounds.specs.Ranges.{bounds_of}
use Rattle.pipe_walk.proofs.StretchLemmas.{IsPassed, rounds_in}
use Rattle.pipe_walk.proofs.stretches.member_is_clear.Given as goal

abbrev pub invariant-loop-phase : goal.invariant-loop-phase
invariant-loop-phase l = IsPassed l.layout (bounds_of l.ranges) l.member l.phase-index (rounds_in l.phase-items l.turns.var.now l.turns.low l.turns.high l.members) l.above
