use Rattle.std.proofs.Common.{◌≡◌, ◌++◌, ◌-◌}
use Rattle.picture_call.specs.Shapes.{turns_of}
use Rattle.picture_call.proofs.shapes.add_times.Given as goal

-- The shapes so far, and those of the other turns.
abbrev pub invariant-loop-i : goal.invariant-loop-i
invariant-loop-i l = l.shapes.items ++ turns_of (l.turns - l._i) l.once ≡ l.fn.shapes.items ++ turns_of l.turns l.once
