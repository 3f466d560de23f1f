use Rattle.std.proofs.Common.{◌≡◌, take}
use Rattle.array_eval.specs.Equal.{store_eq}
use Rattle.array_eval.proofs.page.are_same.Given as goal

-- The cells so far are equal.
abbrev pub invariant-loop-cell : goal.invariant-loop-cell
invariant-loop-cell l = l.same ≡ store_eq (take l.cell l.a) (take l.cell l.b)
