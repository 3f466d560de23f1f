use Rattle.std.proofs.Common.{arith, ◌+ℤ◌, ◌<ℤ◌, pos, to_z, of_z, ◌+◌, drop, map, ap, sym, ◌∙◌, ◌≡◌, w64}
use mir.Val.{SFits}
use Rattle.std.proofs.lemmas.Int.{to_z-of_z, ints}
use Rattle.array_tree.specs.Trees.{statement_of, sequence_of, sequences_of, sequence, sequences}
use Rattle.array_meaning.specs.Work.{loop, sequence_work}
use Rattle.array_meaning.specs.Entered.{statement_part, sequence_part, branches_part, loop_part, phases_part}
use Rattle.array_eval.specs.Traces.{traced}
use Rattle.array_eval.specs.Views.{vars_of}
use Rattle.entered_sites.specs.Recorded.{recorded}
use Rattle.entered_sites.proofs.Recording.{statements_left, branches_left, phases_left, turns_left, statements_ended, branches_ended, phases_ended, plain_block, plain_loop}
use Rattle.entered_sites.proofs.walk.+walk.Goals as goal

pub walk_block-returns-then-sites_in_block-eq0 : goal.walk_block-returns-then-sites_in_block-eq0
walk_block-returns-then-sites_in_block-eq0 t c =
    plain_block c.args.layout.now (sequence_of c.args.block.now) (vars_of c.args.scope.now) c.args.walker.now c.run_block.new.self
    (sym c.sites_in_block.ensures ∙ c.if-sites_in_block-eq0.true) c.run_block.ensures.trace c.run_block.ensures.sites

pub walk_loop-returns-then-sites_in_block-eq0 : goal.walk_loop-returns-then-sites_in_block-eq0
walk_loop-returns-then-sites_in_block-eq0 t c =
    plain_loop c.args.layout.now c.args.var.now c.args.low c.args.high (sequence_of c.args.body.now) (vars_of c.args.scope.now) c.args.walker.now c.run_loop.new.self
    (sym c.sites_in_block.ensures ∙ c.if-sites_in_block-eq0.true)
    (c.run_loop.ensures.trace
    ∙ ap (λ x. traced c.args.layout.now (loop c.args.var.now x (to_z w64 (of_z w64 c.args.high)) (sequence_work (sequence_of c.args.body.now)) (vars_of c.args.scope.now)) c.args.walker.now.trace) (to_z-of_z w64 c.args.low c.ranges.low)
    ∙ ap (λ x. traced c.args.layout.now (loop c.args.var.now c.args.low x (sequence_work (sequence_of c.args.body.now)) (vars_of c.args.scope.now)) c.args.walker.now.trace) (to_z-of_z w64 c.args.high c.ranges.high))
    c.run_loop.ensures.sites

pub walk_statements-loop-statement-preserved : goal.walk_statements-loop-statement-preserved
walk_statements-loop-statement-preserved t c =
    let arrays = c.args.layout.now in
    let vars = vars_of c.args.scope.now in
    let items = c.deref-statement-items.result.now in
    ap (recorded arrays (sequence_part arrays (sequence (map statement_of (drop (c.loop-statement.statement-index + 1) items))) vars))
    (c.in_ok-walk_statement.ensures ∙ ap (λ s. recorded arrays (statement_part arrays (statement_of s) vars) c.loop-statement.walker) c.statement-item.is)
    ∙ sym (statements_left arrays items c.loop-statement.statement-index c.statement-item.result vars c.loop-statement.walker c.loop-statement-test.true)
    ∙ c.loop-statement.invariant

pub walk_statements-returns : goal.walk_statements-returns
walk_statements-returns t c =
    sym (statements_ended c.args.layout.now c.deref-statement-items.result.now c.loop-statement.statement-index (vars_of c.args.scope.now) c.loop-statement.walker c.loop-statement-test.false)
    ∙ c.loop-statement.invariant

pub walk_branches-loop-branch-preserved : goal.walk_branches-loop-branch-preserved
walk_branches-loop-branch-preserved t c =
    let arrays = c.args.layout.now in
    let vars = vars_of c.args.scope.now in
    let items = c.deref-branch-items.result.now in
    ap (recorded arrays (branches_part arrays (sequences (map sequence_of (drop (c.loop-branch.branch-index + 1) items))) vars))
    (c.in_ok-walk_block.ensures ∙ ap (λ b. recorded arrays (sequence_part arrays (sequence_of b) vars) c.loop-branch.walker) c.branch-item.is)
    ∙ sym (branches_left arrays items c.loop-branch.branch-index c.branch-item.result vars c.loop-branch.walker c.loop-branch-test.true)
    ∙ c.loop-branch.invariant

pub walk_branches-returns : goal.walk_branches-returns
walk_branches-returns t c =
    sym (branches_ended c.args.layout.now c.deref-branch-items.result.now c.loop-branch.branch-index (vars_of c.args.scope.now) c.loop-branch.walker c.loop-branch-test.false)
    ∙ c.loop-branch.invariant

pub walk_loop-loop-number-preserved : goal.walk_loop-loop-number-preserved
walk_loop-loop-number-preserved t c =
    let arrays = c.args.layout.now in
    let vars = vars_of c.args.scope.now in
    let var = c.args.var.now in
    let body = sequence_of c.args.body.now in
    let x = to_z w64 c.loop-number.number-bits in
    let high = to_z w64 (of_z w64 c.args.high) in
    let fits : SFits w64 high = rw (to_z-of_z w64 c.args.high c.ranges.high) c.ranges.high in
    let test = c.loop-number-test.true in
    let below : x <ℤ high = grind (arith, ints) in
    let next : to_z w64 (of_z w64 (x +ℤ pos 1)) ≡ x +ℤ pos 1 = omega (arith, ints) in
    ap (λ y. recorded arrays (loop_part arrays var y high (sequence_part arrays body) vars) c.walk_statements.new.walker) next
    ∙ ap (recorded arrays (loop_part arrays var (x +ℤ pos 1) high (sequence_part arrays body) vars)) c.in_ok-walk_statements.ensures
    ∙ sym (turns_left arrays var x high body vars c.loop-number.walker below)
    ∙ c.loop-number.invariant

pub walk_phases-loop-phase-preserved : goal.walk_phases-loop-phase-preserved
walk_phases-loop-phase-preserved t c =
    let arrays = c.args.layout.now in
    let vars = vars_of c.args.scope.now in
    let var = c.args.var.now in
    let low = to_z w64 (of_z w64 c.args.low) in
    let high = to_z w64 (of_z w64 c.args.high) in
    let items = c.deref-phase-items.result.now in
    ap (recorded arrays (phases_part arrays (sequences (map sequence_of (drop (c.loop-phase.phase-index + 1) items))) var low high vars))
    (c.in_ok-walk_loop.ensures ∙ ap (λ b. recorded arrays (loop_part arrays var low high (sequence_part arrays (sequence_of b)) vars) c.loop-phase.walker) c.phase-item.is)
    ∙ sym (phases_left arrays items c.loop-phase.phase-index c.phase-item.result var low high vars c.loop-phase.walker c.loop-phase-test.true)
    ∙ c.loop-phase.invariant

pub walk_phases-returns : goal.walk_phases-returns
walk_phases-returns t c =
    let low = to_z w64 (of_z w64 c.args.low) in
    let high = to_z w64 (of_z w64 c.args.high) in
    sym (phases_ended c.args.layout.now c.deref-phase-items.result.now c.loop-phase.phase-index c.args.var.now low high (vars_of c.args.scope.now) c.loop-phase.walker c.loop-phase-test.false)
    ∙ c.loop-phase.invariant
    ∙ ap (λ x. recorded c.args.layout.now (phases_part c.args.layout.now (sequences_of c.args.phases.now) c.args.var.now x high (vars_of c.args.scope.now)) c.args.walker.now) (to_z-of_z w64 c.args.low c.ranges.low)
    ∙ ap (λ x. recorded c.args.layout.now (phases_part c.args.layout.now (sequences_of c.args.phases.now) c.args.var.now c.args.low x (vars_of c.args.scope.now)) c.args.walker.now) (to_z-of_z w64 c.args.high c.ranges.high)
