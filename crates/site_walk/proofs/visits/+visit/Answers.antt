use Rattle.std.proofs.Common.{true, arith, ◌+ℤ◌, ◌<ℤ◌, pos, to_z, of_z, ◌+◌, drop, map, ap, sym, ◌∙◌, ◌≡◌, w64}
use Rattle.std.proofs.lemmas.Int.{ints}
use Rattle.array_tree.specs.Trees.{expression_of, statement_of, sequence_of, sequence, sequences}
use Rattle.std.specs.List.{fold}
use Rattle.site_walk.specs.Visits.{after}
use Rattle.array_meaning.specs.Work.{statement_work, sequence_work, branches_work, phases_work, loop}
use Rattle.site_walk.proofs.VisitLemmas.{after_followed_by, after_set, after_choose}
use Rattle.array_meaning.proofs.ThreadLemmas.{statements_left, branches_left, phases_left, turns_left}
use Rattle.array_meaning.specs.Touch.{reads_in, visit}
use Rattle.touch_bounds.proofs.TreeLemmas.{statement-assign, statement-if}
use Rattle.array_eval.specs.Views.{vars_of}
use Rattle.site_walk.proofs.visits.+visit.Goals as goal

pub visit_block-loop-statement-preserved : goal.visit_block-loop-statement-preserved
visit_block-loop-statement-preserved g t c =
    let noted = g.V.Visits.noted c.args.visits.now c.args.layout.now in
    let arrays = c.args.layout.now in
    let vars = vars_of c.args.scope.now in
    let items = c.deref-statement-items.result.now in
    ap (after noted arrays (sequence_work (sequence (map statement_of (drop (c.loop-statement.statement-index + 1) items))) vars))
    (c.visit_statement.ensures ∙ ap (λ s. after noted arrays (statement_work (statement_of s) vars) c.loop-statement.notes) c.statement-item.is)
    ∙ sym (statements_left _ (after noted arrays) (after_followed_by noted arrays) items c.loop-statement.statement-index c.statement-item.result vars c.loop-statement.notes c.loop-statement-test.true)
    ∙ c.loop-statement.invariant

pub visit_branches-loop-branch-preserved : goal.visit_branches-loop-branch-preserved
visit_branches-loop-branch-preserved g t c =
    let noted = g.V.Visits.noted c.args.visits.now c.args.layout.now in
    let arrays = c.args.layout.now in
    let vars = vars_of c.args.scope.now in
    let items = c.deref-branch-items.result.now in
    ap (after noted arrays (branches_work (sequences (map sequence_of (drop (c.loop-branch.branch-index + 1) items))) vars))
    (c.visit_block.ensures ∙ ap (λ b. after noted arrays (sequence_work (sequence_of b) vars) c.loop-branch.notes) c.branch-item.is)
    ∙ sym (branches_left _ (after noted arrays) (after_followed_by noted arrays) items c.loop-branch.branch-index c.branch-item.result vars c.loop-branch.notes c.loop-branch-test.true)
    ∙ c.loop-branch.invariant

pub visit_loop-loop-number-preserved : goal.visit_loop-loop-number-preserved
visit_loop-loop-number-preserved g t c =
    let noted = g.V.Visits.noted c.args.visits.now c.args.layout.now in
    let arrays = c.args.layout.now in
    let vars = vars_of c.args.scope.now in
    let var = c.args.turns.now.var.now in
    let body = sequence_work (sequence_of c.args.body.now) in
    let x = to_z w64 c.loop-number.number-bits in
    let high = c.args.turns.now.high in
    let test = c.loop-number-test.true in
    let below : x <ℤ high = grind (arith, ints) in
    let next : to_z w64 (of_z w64 (x +ℤ pos 1)) ≡ x +ℤ pos 1 = omega (arith, ints) in
    ap (λ y. after noted arrays (loop var y high body vars) c.visit_block.new.notes) next
    ∙ ap (after noted arrays (loop var (x +ℤ pos 1) high body vars)) c.visit_block.ensures
    ∙ sym (turns_left _ (after noted arrays) (after_followed_by noted arrays) var x high body vars c.loop-number.notes below)
    ∙ c.loop-number.invariant

pub visit_phases-loop-phase-preserved : goal.visit_phases-loop-phase-preserved
visit_phases-loop-phase-preserved g t c =
    let noted = g.V.Visits.noted c.args.visits.now c.args.layout.now in
    let arrays = c.args.layout.now in
    let vars = vars_of c.args.scope.now in
    let var = c.args.turns.now.var.now in
    let low = c.args.turns.now.low in
    let high = c.args.turns.now.high in
    let items = c.deref-phase-items.result.now in
    ap (after noted arrays (phases_work (sequences (map sequence_of (drop (c.loop-phase.phase-index + 1) items))) var low high vars))
    (c.visit_loop.ensures ∙ ap (λ b. after noted arrays (loop var low high (sequence_work (sequence_of b)) vars) c.loop-phase.notes) c.phase-item.is)
    ∙ sym (phases_left _ (after noted arrays) (after_followed_by noted arrays) items c.loop-phase.phase-index c.phase-item.result var low high vars c.loop-phase.notes c.loop-phase-test.true)
    ∙ c.loop-phase.invariant

pub visit_statement-returns-in-Assign : goal.visit_statement-returns-in-Assign
visit_statement-returns-in-Assign g t c =
    let noted = g.V.Visits.noted c.args.visits.now c.args.layout.now in
    let arrays = c.args.layout.now in
    let vars = vars_of c.args.scope.now in
    let index = expression_of c.in-Assign.index in
    let line = c.in-Assign.line in
    rw (c.in-Assign.is, statement-assign)
    (c.note.ensures
    ∙ ap (λ n. noted n (visit arrays line true vars c.in-Assign.array index))
    (c.visit_reads-in-Assign.ensures ∙ ap (λ n. fold noted n (reads_in arrays line vars (expression_of c.in-Assign.value))) c.visit_reads.ensures)
    ∙ sym (after_set noted arrays line vars c.in-Assign.array index (expression_of c.in-Assign.value) c.args.notes.now))

pub visit_statement-returns-in-If : goal.visit_statement-returns-in-If
visit_statement-returns-in-If g t c =
    let noted = g.V.Visits.noted c.args.visits.now c.args.layout.now in
    let arrays = c.args.layout.now in
    let vars = vars_of c.args.scope.now in
    let first = sequence_work (sequence_of c.in-If.then_block) vars in
    let second = sequence_work (sequence_of c.in-If.else_block) vars in
    rw (c.in-If.is, statement-if)
    (c.visit_block-in-If.ensures
    ∙ ap (after noted arrays second) (c.visit_block.ensures ∙ ap (after noted arrays first) c.visit_reads-in-If.ensures)
    ∙ sym (after_choose noted arrays c.in-If.line vars (expression_of c.in-If.cond) first second c.args.notes.now))
