use Rattle.std.proofs.Common.{◌≡◌, ℕ, ◌≤◌, slice_get, Some, true}
use Rattle.pipe_sched.specs.declared.slot.Slot.{Slot}
use Rattle.pipe_sched.specs.Slots.{is_settled}
use Rattle.pipe_sched.specs.Inside.{mark_of}
use Rattle.pipe_sched.proofs.state.are_settled.Given as goal

abbrev pub invariant-loop-place : goal.invariant-loop-place
invariant-loop-place l = (i : ℕ) → l.place ≤ i → (own : Slot) → slice_get l.slots i ≡ Some own → is_settled (mark_of own) ≡ true
