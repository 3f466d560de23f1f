use Rattle.std.proofs.Common.{◌≡◌, ◌≤◌, length, take}
use Rattle.array_eval.specs.Overlays.{bound_to}
use Rattle.array_eval.specs.Views.{stacked}
use Rattle.array_eval.proofs.scope.last_named.Given as goal

-- None of the variables seen so far has the name.
abbrev pub invariant-loop-left : goal.invariant-loop-left
invariant-loop-left l = (l.left ≤ length l.vars) × (bound_to (stacked (take l.left l.vars)) l.name ≡ bound_to (stacked l.vars) l.name)

abbrev pub decreases-loop-left : goal.decreases-loop-left
decreases-loop-left l = l.left
