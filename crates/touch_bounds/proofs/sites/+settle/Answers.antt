use Rattle.std.proofs.Common.{◌++◌, to_z, of_z, w64, subst, arith, ◌<ℤ◌, ◌≤ℤ◌, ℤ, pos, ◌-ℤ◌}
use Rattle.std.specs.Prelude.{FitsSigned}
use Rattle.std.proofs.lemmas.Bool.{OnTrue_at, OnTrue_from}
use Rattle.std.proofs.lemmas.Int.{ints}
use Rattle.array_tree.specs.Trees.{statement_of, sequence_of}
use Rattle.array_meaning.specs.Sites.{loop_sites, statement_sites, sequence_sites}
use Rattle.touch_bounds.specs.Intervals.{LiesIn}
use Rattle.touch_bounds.specs.Ranges.{bounds_of}
use Rattle.touch_bounds.specs.Pieces.{AreAllSitesApart}
use Rattle.touch_bounds.proofs.SumLemmas.{noted}
use Rattle.touch_bounds.proofs.SiteLemmas.{both_apart, statements_apart, branches_apart, phases_apart, loop_apart}
use Rattle.touch_bounds.proofs.TreeLemmas.{statement-if}
use Rattle.touch_bounds.proofs.sites.+settle.Goals as goal

pub block_is_settled-loop-statement-preserved : goal.block_is_settled-loop-statement-preserved
block_is_settled-loop-statement-preserved t c rest =
    let arrays = c.args.layout.now in
    let bounds = bounds_of c.args.ranges.now in
    c.loop-statement.invariant
    (statements_apart arrays bounds c.deref-statement-items.result.now c.loop-statement.statement-index c.statement-item.result c.loop-statement-test.true
    (subst (λ s. AreAllSitesApart arrays bounds (statement_sites (statement_of s))) c.statement-item.is c.if-not-statement_is_settled.ensures) rest)

pub branches_are_settled-loop-branch-preserved : goal.branches_are_settled-loop-branch-preserved
branches_are_settled-loop-branch-preserved t c rest =
    let arrays = c.args.layout.now in
    let bounds = bounds_of c.args.ranges.now in
    c.loop-branch.invariant
    (branches_apart arrays bounds c.deref-branch-items.result.now c.loop-branch.branch-index c.branch-item.result c.loop-branch-test.true
    (subst (λ b. AreAllSitesApart arrays bounds (sequence_sites (sequence_of b))) c.branch-item.is c.if-not-block_is_settled.ensures) rest)

pub phases_are_settled-loop-phase-preserved : goal.phases_are_settled-loop-phase-preserved
phases_are_settled-loop-phase-preserved t c rest =
    let arrays = c.args.layout.now in
    let bounds = bounds_of c.args.ranges.now in
    let var = c.args.var.now in
    let low = to_z w64 (of_z w64 c.args.low) in
    let high = to_z w64 (of_z w64 c.args.high) in
    c.loop-phase.invariant
    (phases_apart arrays bounds c.deref-phase-items.result.now c.loop-phase.phase-index c.phase-item.result var low high c.loop-phase-test.true
    (subst (λ b. AreAllSitesApart arrays bounds (loop_sites var low high (sequence_sites (sequence_of b)))) c.phase-item.is c.if-not-loop_is_settled.ensures) rest)

pub loop_is_settled-returns : goal.loop_is_settled-returns
loop_is_settled-returns t c =
    let arrays = c.args.layout.now in
    let bounds = bounds_of c.args.ranges.now in
    let low = c.args.low in
    let high = c.args.high in
    let body = sequence_sites (sequence_of c.args.body.now) in
    let test = c.if-low-high.false in
    let fits : FitsSigned w64 low = c.ranges.low in
    let fits' : FitsSigned w64 high = c.ranges.high in
    let some : low <ℤ high = grind (arith, ints) in
    let within = noted low (to_z w64 (of_z w64 high) -ℤ pos 1) in
    let lies : (x : ℤ) → low ≤ℤ x → x <ℤ high → LiesIn within x = λ x from to. record { low = omega (arith, ints); high = omega (arith, ints) } in
    OnTrue_from c.block_is_settled.result (AreAllSitesApart arrays bounds (loop_sites c.args.var.now low high body))
    (λ yes. loop_apart arrays bounds c.args.var.now low high within body some lies (OnTrue_at yes c.block_is_settled.ensures))

pub statement_is_settled-returns-else-not-block_is_settled : goal.statement_is_settled-returns-else-not-block_is_settled
statement_is_settled-returns-else-not-block_is_settled t c =
    let arrays = c.args.layout.now in
    let bounds = bounds_of c.args.ranges.now in
    let first = sequence_sites (sequence_of c.in-If.then_block) in
    let second = sequence_sites (sequence_of c.in-If.else_block) in
    rw (c.in-If.is, statement-if)
    (OnTrue_from c.block_is_settled-in-If.result (AreAllSitesApart arrays bounds (λ vars. first vars ++ second vars))
    (λ yes. both_apart arrays bounds first second c.if-not-block_is_settled.ensures (OnTrue_at yes c.block_is_settled-in-If.ensures)))
