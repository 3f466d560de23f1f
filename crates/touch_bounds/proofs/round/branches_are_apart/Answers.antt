use Rattle.std.proofs.Common.{◌<◌, sym, subst}
use Rattle.std.proofs.lemmas.Bool.{OnTrue_at, OnTrue_from}
use Rattle.array_tree.specs.Trees.{sequences_of}
use Rattle.array_meaning.specs.Sites.{branch_works}
use Rattle.touch_bounds.specs.Ranges.{bounds_of}
use Rattle.touch_bounds.specs.Pieces.{tables_of, AreClear, IsRoundApart}
use Rattle.touch_bounds.proofs.PieceLemmas.{clear_apart}
use Rattle.touch_bounds.proofs.round.branches_are_apart.Goals as goal

pub returns-in-Some : goal.returns-in-Some
returns-in-Some c =
    let arrays = c.args.layout.now in
    let round = branch_works (sequences_of c.args.branches.now) in
    OnTrue_from c.are_all_clear.result (IsRoundApart arrays (bounds_of c.args.ranges.now) round)
    (λ yes vars within. clear_apart arrays (tables_of c.in-Some.pieces.items) (round vars) (c.in-Some.ensures vars within)
    (λ number small. subst (λ pieces. AreClear number (tables_of pieces)) c.deref.ensures.value
    (OnTrue_at yes c.are_all_clear.ensures.clear number (subst (λ n. number < n) (sym c.count.ensures) small))))
