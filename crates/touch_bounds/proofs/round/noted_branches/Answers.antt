use Rattle.std.proofs.Common.{◌≡◌, ◌+◌, [], ◌∷◌, ◌++◌, drop, map, sym, subst, arith}
use Rattle.std.proofs.lemmas.Grind.{common_steps}
use Rattle.std.proofs.lemmas.List.{drop_all}
use Rattle.array_tree.specs.Trees.{sequence_of, sequences_of, sequences}
use Rattle.array_meaning.specs.Work.{sequence_work}
use Rattle.array_meaning.specs.Sites.{branch_works}
use Rattle.array_meaning.specs.Touch.{walk}
use Rattle.touch_bounds.specs.Touches.{AreVisitsNoted}
use Rattle.touch_bounds.proofs.RoundLemmas.{Completes, branch_next, completed}
use Rattle.touch_bounds.proofs.round.noted_branches.Goals as goal

pub loop-branch-preserved : goal.loop-branch-preserved
loop-branch-preserved c vars within =
    let arrays = c.args.layout.now in
    let items = c.deref-branch-items.result.now in
    let i = c.loop-branch.branch-index in
    let all = branch_works (sequences_of c.args.branches.now) vars in
    let piece = c.in_ok-piece.piece in
    let pushed : c.push.new.self.items ≡ c.loop-branch.pieces.items ++ piece ∷ [] = grind (arith, common_steps) in
    let here = subst (λ b. AreVisitsNoted arrays piece.touches.items (walk arrays (sequence_work (sequence_of b) vars))) c.branch-item.is (c.in_ok-piece.ensures vars within) in
    subst (λ pieces. Completes arrays pieces (branch_works (sequences (map sequence_of (drop (i + 1) items))) vars) all) (sym pushed)
    (branch_next arrays c.loop-branch.pieces.items piece items i c.branch-item.result vars all c.loop-branch-test.true (c.loop-branch.invariant vars within) here)

pub returns : goal.returns
returns c vars within =
    let arrays = c.args.layout.now in
    let all = branch_works (sequences_of c.args.branches.now) vars in
    let ends = c.loop-branch-test.false in
    completed arrays c.loop-branch.pieces.items all
    (subst (λ left. Completes arrays c.loop-branch.pieces.items (branch_works (sequences (map sequence_of left)) vars) all)
    (drop_all c.loop-branch.branch-index c.deref-branch-items.result.now (omega arith)) (c.loop-branch.invariant vars within))
