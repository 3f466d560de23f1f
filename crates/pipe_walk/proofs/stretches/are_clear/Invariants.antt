use Rattle.std.proofs.Common.{ℕ, ◌<◌}
use Rattle.touch_bounds.specs.Touches.{DoClash, touch_at}
use Rattle.pipe_walk.proofs.stretches.are_clear.Given as goal

abbrev pub invariant-loop-number : goal.invariant-loop-number
invariant-loop-number l = (k : ℕ) → k < l.number → ¬ DoClash (touch_at l.one k) (touch_at l.other k)
