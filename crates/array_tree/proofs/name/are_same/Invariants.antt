use Rattle.std.proofs.Common.{◌≡◌, take}
use Rattle.std.specs.Prelude.{nat_eq}
use Rattle.std.specs.Cmp.Lexicographic.{pointwise}
use Rattle.array_tree.proofs.name.are_same.Given as goal

-- The bytes so far are equal.
abbrev pub invariant-loop-place : goal.invariant-loop-place
invariant-loop-place l = l.same ≡ pointwise nat_eq (take l.place l.a) (take l.place l.b)
