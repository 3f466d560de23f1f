use Rattle.std.proofs.Common.{arith, ◌+ℤ◌, ◌<ℤ◌, ◌≤ℤ◌, pos, to_z, of_z, ap, sym, ◌∙◌, ◌≡◌, w64}
use mir.Val.{SFits}
use Rattle.std.proofs.lemmas.Int.{to_z-of_z, ints}
use Rattle.array_meaning.specs.Work.{sequence_work, loop}
use Rattle.array_meaning.proofs.ThreadLemmas.{turns_left}
use Rattle.array_eval.specs.Traces.{Trace, traced}
use Rattle.array_eval.proofs.FixedLemmas.{turns_done}
use Rattle.array_eval.proofs.TraceLemmas.{traced_followed_by}
use Rattle.array_eval.proofs.acts.run_acts.Goals as goal

pub loop-turn-preserved : goal.loop-turn-preserved
loop-turn-preserved c = λ arrays var vars body is.
    let work = sequence_work body in
    let x = to_z w64 c.loop-turn.turn-bits in
    let high = to_z w64 (of_z w64 c.args.high) in
    let fits : SFits w64 high = rw (to_z-of_z w64 c.args.high c.ranges.high) c.ranges.high in
    let test = c.loop-turn-test.true in
    let below : x <ℤ high = grind (arith, ints) in
    let next : to_z w64 (of_z w64 (x +ℤ pos 1)) ≡ x +ℤ pos 1 = omega (arith, ints) in
    ap (λ y. traced arrays (loop var y high work vars) c.run_turn.new.store) next
    ∙ ap (traced arrays (loop var (x +ℤ pos 1) high work vars)) (c.run_turn.ensures ∙ is x c.loop-turn.store)
    ∙ sym (turns_left Trace (traced arrays) (traced_followed_by arrays) var x high work vars c.loop-turn.store below)
    ∙ c.loop-turn.invariant arrays var vars body is

pub returns : goal.returns
returns c = λ arrays var vars body is.
    let x = to_z w64 c.loop-turn.turn-bits in
    let high = to_z w64 (of_z w64 c.args.high) in
    let fits : SFits w64 high = rw (to_z-of_z w64 c.args.high c.ranges.high) c.ranges.high in
    let test = c.loop-turn-test.false in
    let over : high ≤ℤ x = grind (arith, ints) in
    turns_done arrays var (sequence_work body) vars c.loop-turn.store c.args.store.now x _ _ _ _
    (to_z-of_z w64 c.args.low c.ranges.low) (to_z-of_z w64 c.args.high c.ranges.high) over (c.loop-turn.invariant arrays var vars body is)
