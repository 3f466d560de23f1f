use Rattle.std.proofs.Common.{to_z, of_z, w64, arith, ◌<ℤ◌, ◌≤ℤ◌, ℤ, pos, ◌-ℤ◌}
use Rattle.std.proofs.lemmas.Bool.{OnTrue_at, OnTrue_from}
use Rattle.std.proofs.lemmas.Int.{ints}
use Rattle.array_tree.specs.Trees.{sequence_of}
use Rattle.array_meaning.specs.Work.{sequence_work}
use Rattle.touch_bounds.specs.Intervals.{LiesIn}
use Rattle.touch_bounds.specs.Ranges.{bounds_of}
use Rattle.touch_bounds.proofs.SumLemmas.{noted}
use Rattle.pipe_walk.specs.Inside.Stretches.{AreTurnsNoted}
use Rattle.pipe_walk.proofs.StretchLemmas.{turns_noted, no_turns_noted}
use Rattle.pipe_walk.proofs.stretches.note_turns.Goals as goal

pub returns-then-turns-clause-noted : goal.returns-then-turns-clause-noted
returns-then-turns-clause-noted c =
    let low = c.args.turns.low in
    let high = c.args.turns.high in
    let test = c.if-turns.true in
    let none : high ≤ℤ low = grind (arith, ints) in
    no_turns_noted c.args.layout.now c.args.touches.now (bounds_of c.args.ranges.now) c.args.turns.var.now low high (sequence_work (sequence_of c.args.body.now)) none

pub returns-clause-noted : goal.returns-clause-noted
returns-clause-noted c =
    let arrays = c.args.layout.now in
    let bounds = bounds_of c.args.ranges.now in
    let low = c.args.turns.low in
    let high = c.args.turns.high in
    let body = sequence_work (sequence_of c.args.body.now) in
    let after = c.note_block.new.touches in
    let test = c.if-turns.false in
    let some : low <ℤ high = grind (arith, ints) in
    let within = noted low (to_z w64 (of_z w64 high) -ℤ pos 1) in
    let lies : (x : ℤ) → low ≤ℤ x → x <ℤ high → LiesIn within x = λ x from to. record { low = omega (arith, ints); high = omega (arith, ints) } in
    OnTrue_from c.note_block.result (AreTurnsNoted arrays after bounds c.args.turns.var.now low high body)
    (λ yes. turns_noted arrays after bounds c.args.turns.var.now low high within body lies (OnTrue_at yes c.note_block.ensures.noted))
