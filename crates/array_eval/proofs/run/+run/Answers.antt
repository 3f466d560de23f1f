use Rattle.std.proofs.Common.{arith, ◌+ℤ◌, ◌<ℤ◌, pos, to_z, of_z, ◌+◌, drop, map, ap, sym, subst, ◌∙◌, ◌≡◌, w64}
use mir.Val.{SFits}
use Rattle.std.proofs.lemmas.Int.{to_z-of_z, ints}
use Rattle.array_tree.specs.Trees.{statement_of, sequence_of, sequence, sequences}
use Rattle.array_meaning.specs.Work.{statement_work, sequence_work, branches_work, phases_work, loop}
use Rattle.array_eval.proofs.TraceLemmas.{traced_followed_by}
use Rattle.array_meaning.proofs.ThreadLemmas.{statements_left, branches_left, phases_left, turns_left}
use Rattle.array_eval.specs.Resolved.{AreActsOf}
use Rattle.array_eval.specs.Traces.{Trace, traced}
use Rattle.array_eval.specs.Views.{vars_of}
use Rattle.array_eval.proofs.run.+run.Goals as goal

pub run_block-loop-statement-preserved : goal.run_block-loop-statement-preserved
run_block-loop-statement-preserved t c =
    let arrays = c.args.layout.now in
    let vars = vars_of c.args.scope.now in
    let items = c.deref-statement-items.result.now in
    ap (traced arrays (sequence_work (sequence (map statement_of (drop (c.loop-statement.statement-index + 1) items))) vars))
    (c.run_statement.ensures ∙ ap (λ s. traced arrays (statement_work (statement_of s) vars) c.loop-statement.store) c.statement-item.is)
    ∙ sym (statements_left Trace (traced arrays) (traced_followed_by arrays) items c.loop-statement.statement-index c.statement-item.result vars c.loop-statement.store c.loop-statement-test.true)
    ∙ c.loop-statement.invariant

pub run_branches-loop-branch-preserved : goal.run_branches-loop-branch-preserved
run_branches-loop-branch-preserved t c =
    let arrays = c.args.layout.now in
    let vars = vars_of c.args.scope.now in
    let items = c.deref-branch-items.result.now in
    ap (traced arrays (branches_work (sequences (map sequence_of (drop (c.loop-branch.branch-index + 1) items))) vars))
    (c.run_block.ensures ∙ ap (λ b. traced arrays (sequence_work (sequence_of b) vars) c.loop-branch.store) c.branch-item.is)
    ∙ sym (branches_left Trace (traced arrays) (traced_followed_by arrays) items c.loop-branch.branch-index c.branch-item.result vars c.loop-branch.store c.loop-branch-test.true)
    ∙ c.loop-branch.invariant

pub run_turns-loop-number-preserved : goal.run_turns-loop-number-preserved
run_turns-loop-number-preserved t c =
    let arrays = c.args.layout.now in
    let vars = vars_of c.args.scope.now in
    let var = c.args.var.now in
    let body = sequence_work (sequence_of c.args.body.now) in
    let x = to_z w64 c.loop-number.number-bits in
    let high = to_z w64 (of_z w64 c.args.high) in
    let fits : SFits w64 high = rw (to_z-of_z w64 c.args.high c.ranges.high) c.ranges.high in
    let test = c.loop-number-test.true in
    let below : x <ℤ high = grind (arith, ints) in
    let next : to_z w64 (of_z w64 (x +ℤ pos 1)) ≡ x +ℤ pos 1 = omega (arith, ints) in
    ap (λ y. traced arrays (loop var y high body vars) c.run_block.new.store) next
    ∙ ap (traced arrays (loop var (x +ℤ pos 1) high body vars)) c.run_block.ensures
    ∙ sym (turns_left Trace (traced arrays) (traced_followed_by arrays) var x high body vars c.loop-number.store below)
    ∙ c.loop-number.invariant

pub run_phases-loop-phase-preserved : goal.run_phases-loop-phase-preserved
run_phases-loop-phase-preserved t c =
    let arrays = c.args.layout.now in
    let vars = vars_of c.args.scope.now in
    let var = c.args.var.now in
    let low = to_z w64 (of_z w64 c.args.low) in
    let high = to_z w64 (of_z w64 c.args.high) in
    let items = c.deref-phase-items.result.now in
    ap (traced arrays (phases_work (sequences (map sequence_of (drop (c.loop-phase.phase-index + 1) items))) var low high vars))
    (c.run_loop.ensures ∙ ap (λ b. traced arrays (loop var low high (sequence_work (sequence_of b)) vars) c.loop-phase.store) c.phase-item.is)
    ∙ sym (phases_left Trace (traced arrays) (traced_followed_by arrays) items c.loop-phase.phase-index c.phase-item.result var low high vars c.loop-phase.store c.loop-phase-test.true)
    ∙ c.loop-phase.invariant

pub run_resolved-returns-in-Some : goal.run_resolved-returns-in-Some
run_resolved-returns-in-Some t c =
    let arrays = c.args.layout.now in
    let vars = vars_of c.args.scope.now in
    let var = c.args.var.now in
    let body = sequence_of c.args.body.now in
    let before = c.args.store.now in
    let are : AreActsOf arrays var vars c.deref.result.now body = subst (λ acts. AreActsOf arrays var vars acts body) (sym c.deref.ensures.value) c.in-Some.ensures in
    c.run_acts.ensures arrays var vars body are
    ∙ ap (λ low. traced arrays (loop var low (to_z w64 (of_z w64 c.args.high)) (sequence_work body) vars) before) (to_z-of_z w64 c.args.low c.ranges.low)
    ∙ ap (λ high. traced arrays (loop var c.args.low high (sequence_work body) vars) before) (to_z-of_z w64 c.args.high c.ranges.high)
