use Rattle.std.proofs.Common.{◌<◌, sym, subst, to_z, of_z, w64}
use Rattle.std.proofs.lemmas.Bool.{OnTrue_at, OnTrue_from}
use Rattle.std.proofs.lemmas.Int.{to_z-of_z}
use Rattle.array_tree.specs.Trees.{sequence_of}
use Rattle.array_meaning.specs.Work.{sequence_work}
use Rattle.array_meaning.specs.Members.{team_works}
use Rattle.touch_bounds.specs.Ranges.{bounds_of}
use Rattle.touch_bounds.specs.Pieces.{tables_of, AreClear, ArePiecesNoted, IsRoundApart}
use Rattle.touch_bounds.proofs.PieceLemmas.{clear_apart}
use Rattle.touch_bounds.proofs.round.members_are_apart.Goals as goal

pub returns-in-Some : goal.returns-in-Some
returns-in-Some c =
    let arrays = c.args.layout.now in
    let var = c.args.var.now in
    let members = c.args.members in
    let body = sequence_work (sequence_of c.args.phase.now) in
    let round = team_works var c.args.low c.args.high members body in
    OnTrue_from c.are_all_clear.result (IsRoundApart arrays (bounds_of c.args.ranges.now) round)
    (λ yes vars within. clear_apart arrays (tables_of c.in-Some.pieces.items) (round vars)
    (subst (λ h. ArePiecesNoted arrays (tables_of c.in-Some.pieces.items) (team_works var c.args.low h members body vars)) (to_z-of_z w64 c.args.high c.ranges.high)
    (subst (λ l. ArePiecesNoted arrays (tables_of c.in-Some.pieces.items) (team_works var l (to_z w64 (of_z w64 c.args.high)) members body vars)) (to_z-of_z w64 c.args.low c.ranges.low) (c.in-Some.ensures vars within)))
    (λ number small. subst (λ pieces. AreClear number (tables_of pieces)) c.deref.ensures.value
    (OnTrue_at yes c.are_all_clear.ensures.clear number (subst (λ n. number < n) (sym c.count.ensures) small))))
