use Rattle.std.proofs.Common.{◌≡◌, ◌+◌, ◌*◌, ◌<◌, length, ap, sym, ◌∙◌, arith}
use Rattle.std.proofs.lemmas.Nat.{mul-le}
use Rattle.array_eval.specs.Traces.{noted_all}
use Rattle.pipe_sched.specs.Inside.{written_in}
use Rattle.pipe_sched.proofs.Merges.{unfilled, merged_member}
use Rattle.pipe_sched.proofs.merging.merge_phase.Goals as goal
use Rattle.pipe_sched.proofs.merging.merge_phase.Goals.{in-Filled, in_default}

pub loop-member-preserved : goal.loop-member-preserved
loop-member-preserved c =
    let n = c.args.phases in
    let m = c.loop-member.member in
    let k = c.args.phase in
    let own = c.index-slots-member.result in
    let room = mul-le (m + 1) n c.args.members n (let less = c.loop-member-test.true in omega arith) (omega arith) in
    let row : (m + 1) * n ≡ m * n + n = omega arith in
    let there : m * n + k < length c.args.slots.now = (let all = c.requires.there in let small = c.requires.phase in omega (arith, room, row)) in
    let done : c.match-slots-member.store ≡ noted_all (written_in own) c.loop-member.store
    = elim c.match-slots-member.branch [
      | in-Filled w ↦ w.store-is ∙ w.merge.ensures.noted ∙ ap (λ s. noted_all (written_in s) c.loop-member.store) (sym w.in-Filled.is)
      | in_default w ↦ w.store-is ∙ ap (λ ws. noted_all ws c.loop-member.store) (sym (unfilled own (λ job written is. w.in_default.not-Filled job written is)))
    ] in
    merged_member n c.args.slots.now k m own c.loop-member.store c.match-slots-member.store c.args.store.now there c.index-slots-member.is done c.loop-member.invariant
