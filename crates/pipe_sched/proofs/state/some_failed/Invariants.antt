use Rattle.std.proofs.Common.{◌≡◌, ℕ, ◌<◌, slice_get, Some, false}
use Rattle.pipe_sched.specs.declared.slot.Slot.{Slot}
use Rattle.pipe_sched.specs.Slots.{is_failed}
use Rattle.pipe_sched.specs.Inside.{mark_of}
use Rattle.pipe_sched.proofs.state.some_failed.Given as goal

abbrev pub invariant-loop-slot : goal.invariant-loop-slot
invariant-loop-slot l = (i : ℕ) → i < l.slot-index → (own : Slot) → slice_get l.slots i ≡ Some own → is_failed (mark_of own) ≡ false
