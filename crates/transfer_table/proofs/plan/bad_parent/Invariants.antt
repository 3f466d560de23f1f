use Rattle.std.proofs.Common.{◌≡◌, ◌+◌, drop}
use Rattle.transfer_table.specs.Plan.{bad_parent}
use Rattle.transfer_table.proofs.plan.bad_parent.Given as goal

-- Each parent below i is smaller than its site.
abbrev pub invariant-loop-i : goal.invariant-loop-i
invariant-loop-i l = bad_parent l.parents 1 ≡ bad_parent (drop l.i l.parents) (l.i + 1)
