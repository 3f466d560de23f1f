use Rattle.std.proofs.Common.{◌≡◌, ◌+◌, ◌-◌, [], ◌∷◌, ◌++◌, to_z, of_z, w64, sym, subst, ◌∙◌, arith}
use Rattle.std.proofs.lemmas.Grind.{common_steps}
use Rattle.std.proofs.lemmas.Int.{to_z-of_z}
use Rattle.array_tree.specs.Trees.{sequence_of}
use Rattle.array_meaning.specs.Work.{sequence_work, loop}
use Rattle.array_meaning.specs.Members.{start_of, member_works, team_works}
use Rattle.array_meaning.specs.Touch.{walk}
use Rattle.touch_bounds.specs.Touches.{AreVisitsNoted}
use Rattle.touch_bounds.specs.Pieces.{tables_of, ArePiecesNoted}
use Rattle.touch_bounds.proofs.RoundLemmas.{Completes, member_next, completed}
use Rattle.touch_bounds.proofs.round.noted_members.Goals as goal

pub loop-member-preserved : goal.loop-member-preserved
loop-member-preserved c vars within =
    let arrays = c.args.layout.now in
    let var = c.args.var.now in
    let low = to_z w64 (of_z w64 c.args.low) in
    let high = to_z w64 (of_z w64 c.args.high) in
    let members = c.args.members in
    let body = sequence_work (sequence_of c.args.phase.now) in
    let j = c.loop-member.member in
    let from = c.start_of_member-start.result in
    let to = c.start_of_member-end.result in
    let piece = c.in_ok-piece.piece in
    let starts : to_z w64 (of_z w64 from) ≡ start_of low high members j
    = to_z-of_z w64 from (record { sfits = c.start_of_member-start.type_inv }) ∙ c.start_of_member-start.ensures in
    let ends : to_z w64 (of_z w64 to) ≡ start_of low high members (j + 1)
    = to_z-of_z w64 to (record { sfits = c.start_of_member-end.type_inv }) ∙ c.start_of_member-end.ensures in
    let pushed : c.push.new.self.items ≡ c.loop-member.pieces.items ++ piece ∷ [] = grind (arith, common_steps) in
    let here = subst (λ y. AreVisitsNoted arrays piece.touches.items (walk arrays (loop var (start_of low high members j) y body vars))) ends
    (subst (λ x. AreVisitsNoted arrays piece.touches.items (walk arrays (loop var x (to_z w64 (of_z w64 to)) body vars))) starts (c.in_ok-piece.ensures vars within)) in
    subst (λ pieces. Completes arrays pieces (member_works var low high members body (j + 1) (members - (j + 1)) vars) (team_works var low high members body vars)) (sym pushed)
    (member_next arrays c.loop-member.pieces.items piece var low high members body j vars (team_works var low high members body vars) c.loop-member-test.true (c.loop-member.invariant vars within) here)

pub returns : goal.returns
returns c vars within =
    let arrays = c.args.layout.now in
    let var = c.args.var.now in
    let low = to_z w64 (of_z w64 c.args.low) in
    let high = to_z w64 (of_z w64 c.args.high) in
    let members = c.args.members in
    let body = sequence_work (sequence_of c.args.phase.now) in
    let j = c.loop-member.member in
    let pieces = c.loop-member.pieces.items in
    let ends = c.loop-member-test.false in
    let none : members - j ≡ 0 = omega arith in
    let all = completed arrays pieces (team_works var low high members body vars)
    (subst (λ k. Completes arrays pieces (member_works var low high members body j k vars) (team_works var low high members body vars)) none (c.loop-member.invariant vars within)) in
    subst (λ h. ArePiecesNoted arrays (tables_of pieces) (team_works var c.args.low h members body vars)) (to_z-of_z w64 c.args.high c.ranges.high)
    (subst (λ l. ArePiecesNoted arrays (tables_of pieces) (team_works var l high members body vars)) (to_z-of_z w64 c.args.low c.ranges.low) all)
