use Rattle.pipe_sched.specs.Slots.{follows}
use Rattle.pipe_sched.specs.Inside.{failed_slot}
use Rattle.pipe_sched.proofs.Changes.{IsChanging}
use Rattle.pipe_sched.proofs.filling.fail_from.Given as goal

abbrev pub invariant-loop-place : goal.invariant-loop-place
invariant-loop-place l = IsChanging (follows l.phases l.member l.phase) failed_slot l.fn.slots l.slots l.place
