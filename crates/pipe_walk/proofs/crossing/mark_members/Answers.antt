use Rattle.std.proofs.Common.{◌≡◌, ◌+◌, ◌-◌, to_z, of_z, w64, ap, sym, ◌∙◌, arith}
use Rattle.std.proofs.lemmas.Int.{to_z-of_z, ints}
use Rattle.array_tree.specs.Trees.{sequence_of}
use Rattle.array_meaning.specs.Work.{sequence_work, loop}
use Rattle.array_meaning.specs.Members.{start_of, member_works}
use Rattle.array_eval.specs.Views.{vars_of}
use Rattle.pipe_walk.specs.Inside.Marks.{with_piece, with_pieces}
use Rattle.pipe_walk.proofs.PhaseLemmas.{member_next}
use Rattle.pipe_walk.proofs.crossing.mark_members.Goals as goal

pub loop-member-preserved : goal.loop-member-preserved
loop-member-preserved c =
    let arrays = c.args.layout.now in
    let vars = vars_of c.args.scope.now in
    let var = c.args.turns.var.now in
    let low = c.args.turns.low in
    let high = c.args.turns.high in
    let members = c.args.members in
    let body = sequence_work (sequence_of c.args.phase.now) in
    let j = c.loop-member.member in
    let from = c.start_of_member.result in
    let to = c.start_of_member-in-loop-member.result in
    let lows : to_z w64 (of_z w64 low) ≡ low = omega (arith, ints) in
    let highs : to_z w64 (of_z w64 high) ≡ high = omega (arith, ints) in
    let starts : to_z w64 (of_z w64 from) ≡ start_of low high members j
    = to_z-of_z w64 from (record { sfits = c.start_of_member.type_inv }) ∙ (rw (lows, highs) at c.start_of_member.ensures) in
    let ends : to_z w64 (of_z w64 to) ≡ start_of low high members (j + 1)
    = to_z-of_z w64 to (record { sfits = c.start_of_member-in-loop-member.type_inv }) ∙ (rw (lows, highs) at c.start_of_member-in-loop-member.ensures) in
    ap (with_pieces arrays (j + 1) (member_works var low high members body (j + 1) (members - (j + 1)) vars))
    (c.visit_loop.ensures
    ∙ ap (λ x. with_piece arrays j (loop var x (to_z w64 (of_z w64 to)) body vars) c.loop-member.table) starts
    ∙ ap (λ y. with_piece arrays j (loop var (start_of low high members j) y body vars) c.loop-member.table) ends)
    ∙ sym (member_next arrays var low high members body j vars c.loop-member.table c.loop-member-test.true)
    ∙ c.loop-member.invariant
