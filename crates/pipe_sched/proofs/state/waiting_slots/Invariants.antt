use Rattle.std.proofs.Common.{◌≡◌, replicate}
use Rattle.pipe_sched.specs.declared.slot.Slot.TheVariants as slot
use Rattle.pipe_sched.proofs.state.waiting_slots.Given as goal

abbrev pub invariant-loop-place : goal.invariant-loop-place
invariant-loop-place l = l.slots.items ≡ replicate l._place slot.Waiting
