use Rattle.std.proofs.Common.{arith, ◌+ℤ◌, ◌<ℤ◌, ◌≤ℤ◌, pos, to_z, of_z, ap, sym, ◌∙◌, ◌≡◌, w64}
use mir.Val.{SFits}
use Rattle.std.proofs.lemmas.Int.{to_z-of_z, ints}
use Rattle.array_meaning.specs.Work.{sequence_work, loop}
use Rattle.array_meaning.proofs.ThreadLemmas.{turns_left}
use Rattle.array_eval.specs.Traces.{Trace, traced}
use Rattle.array_eval.specs.Views.{vars_of}
use Rattle.array_eval.proofs.FixedLemmas.{turns_done}
use Rattle.array_eval.proofs.TraceLemmas.{traced_followed_by}
use Rattle.array_eval.proofs.fixed.FixedTurn.run_all.Goals as goal

pub loop-number-preserved : goal.loop-number-preserved
loop-number-preserved c = λ body is.
    let arrays = c.args.layout.now in
    let vars = vars_of c.args.scope.now in
    let var = c.args.var.now in
    let work = sequence_work body in
    let x = to_z w64 c.loop-number.number-bits in
    let high = to_z w64 (of_z w64 c.args.high) in
    let fits : SFits w64 high = rw (to_z-of_z w64 c.args.high c.ranges.high) c.ranges.high in
    let test = c.loop-number-test.true in
    let below : x <ℤ high = grind (arith, ints) in
    let next : to_z w64 (of_z w64 (x +ℤ pos 1)) ≡ x +ℤ pos 1 = omega (arith, ints) in
    ap (λ y. traced arrays (loop var y high work vars) c.run.new.store) next
    ∙ ap (traced arrays (loop var (x +ℤ pos 1) high work vars)) (c.run.ensures ∙ is x c.loop-number.store)
    ∙ sym (turns_left Trace (traced arrays) (traced_followed_by arrays) var x high work vars c.loop-number.store below)
    ∙ c.loop-number.invariant body is

pub returns : goal.returns
returns c = λ body is.
    let x = to_z w64 c.loop-number.number-bits in
    let high = to_z w64 (of_z w64 c.args.high) in
    let fits : SFits w64 high = rw (to_z-of_z w64 c.args.high c.ranges.high) c.ranges.high in
    let test = c.loop-number-test.false in
    let over : high ≤ℤ x = grind (arith, ints) in
    turns_done c.args.layout.now c.args.var.now (sequence_work body) (vars_of c.args.scope.now) c.loop-number.store c.args.store.now x _ _ _ _
    (to_z-of_z w64 c.args.low c.ranges.low) (to_z-of_z w64 c.args.high c.ranges.high) over (c.loop-number.invariant body is)
