use Rattle.std.proofs.Common.{◌≡◌, ◌+◌, ℤ, List, map, get_or, to_z, of_z, w64, ap, sym, subst, ◌∙◌, arith}
use Rattle.std.proofs.lemmas.Int.{to_z-of_z, ints}
use Rattle.array_tree.specs.Trees.{sequence_of, sequences, sequences_of}
use Rattle.array_tree.specs.declared.tree.Block.{Block}
use Rattle.array_tree.proofs.Views.{sequences_of-blocks}
use Rattle.array_meaning.specs.Work.{sequence_work}
use Rattle.array_meaning.specs.Members.{start_of}
use Rattle.array_meaning.specs.Sites.{phase_rounds}
use Rattle.touch_bounds.specs.declared.touch.Touch.{Touch}
use Rattle.touch_bounds.specs.Ranges.{bounds_of}
use Rattle.pipe_walk.specs.Inside.Stretches.{AreTurnsNoted, IsMemberAlwaysClear}
use Rattle.pipe_walk.proofs.StretchLemmas.{rounds_in, own_noted, above_noted, none_passed, one_passed, all_passed}
use Rattle.pipe_walk.proofs.stretches.member_is_clear.Goals as goal

pub loop-phase-init : goal.loop-phase-init
loop-phase-init c =
    let low = c.args.turns.low in
    let high = c.args.turns.high in
    none_passed c.args.layout.now (bounds_of c.args.ranges.now) c.args.member (rounds_in c.deref-phase-items.result.now c.args.turns.var.now low high c.args.members) c.fill.new.self

pub loop-phase-preserved : goal.loop-phase-preserved
loop-phase-preserved c =
    let arrays = c.args.layout.now in
    let bounds = bounds_of c.args.ranges.now in
    let items = c.deref-phase-items.result.now in
    let i = c.loop-phase.phase-index in
    let d = c.phase-item.result in
    let var = c.args.turns.var.now in
    let low = c.args.turns.low in
    let high = c.args.turns.high in
    let members = c.args.members in
    let member = c.args.member in
    let own = c.phase_is_clear.new.own in
    let before = c.loop-phase.above in
    let after = c.phase_is_clear.new.above in
    let from = c.start_of_member.result in
    let to = c.start_of_member-end.result in
    let top = c.start_of_member-2.result in
    let lows : to_z w64 (of_z w64 low) ≡ low = omega (arith, ints) in
    let highs : to_z w64 (of_z w64 high) ≡ high = omega (arith, ints) in
    let starts : to_z w64 (of_z w64 from) ≡ start_of low high members member
    = to_z-of_z w64 from (record { sfits = c.start_of_member.type_inv }) ∙ (rw (lows, highs) at c.start_of_member.ensures) in
    let ends : to_z w64 (of_z w64 to) ≡ start_of low high members (member + 1)
    = to_z-of_z w64 to (record { sfits = c.start_of_member-end.type_inv }) ∙ (rw (lows, highs) at c.start_of_member-end.ensures) in
    let lasts : to_z w64 (of_z w64 top) ≡ start_of low high members members
    = to_z-of_z w64 top (record { sfits = c.start_of_member-2.type_inv }) ∙ (rw (lows, highs) at c.start_of_member-2.ensures) in
    let turns = λ (t : List Touch) (x y : ℤ) (b : Block). AreTurnsNoted arrays t bounds var x y (sequence_work (sequence_of b)) in
    let own_is : turns own (start_of low high members member) (start_of low high members (member + 1)) (get_or items i d)
    = subst (turns own (start_of low high members member) (start_of low high members (member + 1))) c.phase-item.is
    (subst (λ y. turns own (start_of low high members member) y d) ends
    (subst (λ x. turns own x (to_z w64 (of_z w64 to)) d) starts c.if-not-phase_is_clear.ensures.own)) in
    let above_is : turns after (start_of low high members (member + 1)) (start_of low high members members) (get_or items i d)
    = subst (turns after (start_of low high members (member + 1)) (start_of low high members members)) c.phase-item.is
    (subst (λ y. turns after (start_of low high members (member + 1)) y d) lasts
    (subst (λ x. turns after x (to_z w64 (of_z w64 top)) d) ends c.if-not-phase_is_clear.ensures.above)) in
    one_passed arrays bounds member i (rounds_in items var low high members) own before after c.loop-phase.invariant
    c.if-not-phase_is_clear.ensures.clear c.phase_is_clear.ensures.wider
    (own_noted arrays own bounds items var low high members d member i own_is)
    (above_noted arrays after bounds items var low high members d member i above_is)

pub returns : goal.returns
returns c =
    let arrays = c.args.layout.now in
    let bounds = bounds_of c.args.ranges.now in
    let items = c.deref-phase-items.result.now in
    let phases = sequences_of c.args.phases.now in
    let var = c.args.turns.var.now in
    let low = c.args.turns.low in
    let high = c.args.turns.high in
    let members = c.args.members in
    let member = c.args.member in
    let ends = c.loop-phase-test.false in
    let blocks = sequences_of-blocks c.args.phases.now ∙ ap (λ bs. sequences (map sequence_of bs)) (sym c.deref-phase-items.ensures.value) in
    subst (λ bs. IsMemberAlwaysClear arrays bounds member (phase_rounds bs var low high members)) (sym blocks)
    (all_passed arrays bounds member c.loop-phase.phase-index items var low high members c.loop-phase.above (omega arith) c.loop-phase.invariant)
