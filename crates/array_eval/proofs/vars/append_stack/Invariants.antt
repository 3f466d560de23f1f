use Rattle.std.proofs.Common.{◌≡◌, ◌++◌, ◌≤◌, length, take}
use Rattle.array_eval.specs.Bindings.{pairs_of}
use Rattle.array_eval.specs.Views.{stacked}
use Rattle.array_eval.proofs.vars.append_stack.Given as goal

-- The variables appended so far and the remaining ones are all the variables.
abbrev pub invariant-loop-left : goal.invariant-loop-left
invariant-loop-left l =
    (l.left ≤ length l.vars)
    × (pairs_of l.bindings.items ++ stacked (take l.left l.vars) ≡ pairs_of l.fn.bindings.items ++ stacked l.vars)

abbrev pub decreases-loop-left : goal.decreases-loop-left
decreases-loop-left l = l.left
