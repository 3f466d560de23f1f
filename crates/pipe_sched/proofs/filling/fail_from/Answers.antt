use Rattle.std.proofs.Common.{◌+◌, List, arith, ap, sym, subst, ◌∙◌}
use Rattle.pipe_sched.specs.declared.slot.Slot.{Slot}
use Rattle.pipe_sched.specs.Slots.{follows}
use Rattle.pipe_sched.specs.Inside.{failed_slot}
use Rattle.pipe_sched.proofs.Changes.{IsChanging, one_changed, one_kept, all_changed}
use Rattle.pipe_sched.proofs.Places.{it_follows, not_member, not_phase}
use Rattle.pipe_sched.proofs.filling.fail_from.Goals as goal
use Rattle.pipe_sched.proofs.filling.fail_from.Goals.{then-member-place+then-phase-place, else-member-place, else-member-place-via-then-member-place+else-phase-place, else-member-place-via-else-member-place}

pub loop-place-preserved : goal.loop-place-preserved
loop-place-preserved c =
    let n = c.args.phases in
    let j = c.args.member in
    let k = c.args.phase in
    let i = c.loop-place.place in
    let all = c.args.slots.now in
    let now = c.loop-place.slots in
    let P : List Slot → Type 0 = λ xs. IsChanging (follows n j k) failed_slot all xs (i + 1) in
    elim c.if-member-place.branch [
      | then-member-place+then-phase-place w ↦
          subst P (sym w.slots-is)
          (one_changed (follows n j k) failed_slot all now i w.index-slots-place.result w.fail.new.self
          (let size = c.loop-place.auto.slots in let less = c.loop-place-test.true in omega arith)
          w.index-slots-place.is (w.fail.ensures ∙ ap failed_slot (sym w.index-slots-place.is))
          (it_follows n j k i w.if-member-place.true w.if-phase-place.true) c.loop-place.invariant)
      | else-member-place w ↦
          subst P (sym w.slots-is)
          (one_kept (follows n j k) failed_slot all now i
          (elim w.else-member-place.branch [
            | else-member-place-via-then-member-place+else-phase-place v ↦ not_phase n j k i v.if-phase-place.false
            | else-member-place-via-else-member-place v ↦ not_member n j k i v.if-member-place.false
          ])
          c.loop-place.invariant)
    ]

pub returns : goal.returns
returns c =
    all_changed (follows c.args.phases c.args.member c.args.phase) failed_slot c.args.slots.now c.loop-place.slots c.loop-place.place
    (let size = c.loop-place.invariant.size in let end = c.loop-place-test.false in omega arith) c.loop-place.invariant
