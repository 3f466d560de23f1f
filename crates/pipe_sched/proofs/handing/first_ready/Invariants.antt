use Rattle.std.proofs.Common.{ℕ, ◌*◌, ◌<◌}
use Rattle.pipe_sched.specs.Inside.{LooksReady}
use Rattle.pipe_sched.proofs.handing.first_ready.Given as goal

-- No slot of the members so far looks ready.
abbrev pub invariant-loop-member : goal.invariant-loop-member
invariant-loop-member l = (i : ℕ) → i < l.member * l.phases → LooksReady l.phases l.slots i → ⊥
