use Rattle.std.proofs.Common.{get_or, to_z, of_z, w64, subst, arith, ◌<ℤ◌, ◌≤ℤ◌, ℤ, pos, ◌-ℤ◌}
use Rattle.std.specs.Prelude.{FitsSigned}
use Rattle.std.proofs.lemmas.Bool.{OnTrue_at, OnTrue_from}
use Rattle.std.proofs.lemmas.Int.{ints, to_z-of_z}
use Rattle.array_tree.specs.Trees.{expression_of, statement_of, sequence_of, sequences_of, If}
use Rattle.array_meaning.specs.Work.{statement_work, sequence_work, phases_work, loop}
use Rattle.touch_bounds.specs.Intervals.{LiesIn}
use Rattle.touch_bounds.specs.Ranges.{bounds_of}
use Rattle.touch_bounds.specs.Touches.{IsWorkNoted, AreVisitsNoted}
use Rattle.touch_bounds.proofs.NotedLemmas.{wider_trans, wider_refl}
use Rattle.touch_bounds.proofs.SumLemmas.{noted}
use Rattle.array_meaning.specs.Touch.{walk}
use Rattle.touch_bounds.proofs.WorkLemmas.{work_wider, statements_noted, branches_noted, phases_noted, no_phase_noted, choice_noted, loop_noted}
use Rattle.touch_bounds.proofs.TreeLemmas.{statement-if}
use Rattle.touch_bounds.proofs.work.+note.Goals as goal

pub note_block-returns-then-not-note_statement-clause-wider : goal.note_block-returns-then-not-note_statement-clause-wider
note_block-returns-then-not-note_statement-clause-wider t c =
    wider_trans c.args.touches.now c.loop-statement.touches c.note_statement.new.touches c.loop-statement.invariant.0 c.note_statement.ensures.wider

pub note_block-loop-statement-preserved : goal.note_block-loop-statement-preserved
note_block-loop-statement-preserved t c =
    let arrays = c.args.layout.now in
    let bounds = bounds_of c.args.ranges.now in
    let items = c.deref-statement-items.result.now in
    let i = c.loop-statement.statement-index in
    let d = c.statement-item.result in
    let before = c.loop-statement.touches in
    let after = c.note_statement.new.touches in
    let here = subst (λ s. IsWorkNoted arrays after bounds (statement_work (statement_of s))) c.statement-item.is c.if-not-note_statement.ensures.noted in (
      wider_trans c.args.touches.now before after c.loop-statement.invariant.0 c.note_statement.ensures.wider,
      λ u w rest. c.loop-statement.invariant.1 u (wider_trans before after u c.note_statement.ensures.wider w)
          (statements_noted arrays u bounds items i d c.loop-statement-test.true (work_wider arrays after u bounds (statement_work (statement_of (get_or items i d))) w here) rest),
    )

pub note_branches-returns-then-not-note_block-clause-wider : goal.note_branches-returns-then-not-note_block-clause-wider
note_branches-returns-then-not-note_block-clause-wider t c =
    wider_trans c.args.touches.now c.loop-branch.touches c.note_block.new.touches c.loop-branch.invariant.0 c.note_block.ensures.wider

pub note_branches-loop-branch-preserved : goal.note_branches-loop-branch-preserved
note_branches-loop-branch-preserved t c =
    let arrays = c.args.layout.now in
    let bounds = bounds_of c.args.ranges.now in
    let items = c.deref-branch-items.result.now in
    let i = c.loop-branch.branch-index in
    let d = c.branch-item.result in
    let before = c.loop-branch.touches in
    let after = c.note_block.new.touches in
    let here = subst (λ b. IsWorkNoted arrays after bounds (sequence_work (sequence_of b))) c.branch-item.is c.if-not-note_block.ensures.noted in (
      wider_trans c.args.touches.now before after c.loop-branch.invariant.0 c.note_block.ensures.wider,
      λ u w rest. c.loop-branch.invariant.1 u (wider_trans before after u c.note_block.ensures.wider w)
          (branches_noted arrays u bounds items i d c.loop-branch-test.true (work_wider arrays after u bounds (sequence_work (sequence_of (get_or items i d))) w here) rest),
    )

pub note_phases-returns-then-not-note_loop-clause-wider : goal.note_phases-returns-then-not-note_loop-clause-wider
note_phases-returns-then-not-note_loop-clause-wider t c =
    wider_trans c.args.touches.now c.loop-phase.touches c.note_loop.new.touches c.loop-phase.invariant.0 c.note_loop.ensures.wider

pub note_phases-loop-phase-preserved : goal.note_phases-loop-phase-preserved
note_phases-loop-phase-preserved t c =
    let arrays = c.args.layout.now in
    let bounds = bounds_of c.args.ranges.now in
    let items = c.deref-phase-items.result.now in
    let i = c.loop-phase.phase-index in
    let d = c.phase-item.result in
    let var = c.args.var.now in
    let low = to_z w64 (of_z w64 c.args.low) in
    let high = to_z w64 (of_z w64 c.args.high) in
    let before = c.loop-phase.touches in
    let after = c.note_loop.new.touches in
    let here = subst (λ b. IsWorkNoted arrays after bounds (loop var low high (sequence_work (sequence_of b)))) c.phase-item.is c.if-not-note_loop.ensures.noted in (
      wider_trans c.args.touches.now before after c.loop-phase.invariant.0 c.note_loop.ensures.wider,
      λ u w rest. c.loop-phase.invariant.1 u (wider_trans before after u c.note_loop.ensures.wider w)
          (phases_noted arrays u bounds items i d var low high c.loop-phase-test.true (work_wider arrays after u bounds (loop var low high (sequence_work (sequence_of (get_or items i d)))) w here) rest),
    )

pub note_phases-returns-clause-noted : goal.note_phases-returns-clause-noted
note_phases-returns-clause-noted t c vars within =
    let arrays = c.args.layout.now in
    let bounds = bounds_of c.args.ranges.now in
    let phases = sequences_of c.args.phases.now in
    let var = c.args.var.now in
    let low = to_z w64 (of_z w64 c.args.low) in
    let high = to_z w64 (of_z w64 c.args.high) in
    let noted = c.loop-phase.touches in
    let ends = c.loop-phase-test.false in
    let all = c.loop-phase.invariant.1 noted (wider_refl noted)
    (no_phase_noted arrays noted bounds c.deref-phase-items.result.now c.loop-phase.phase-index var low high (omega arith)) vars within in
    subst (λ h. AreVisitsNoted arrays noted (walk arrays (phases_work phases var c.args.low h vars))) (to_z-of_z w64 c.args.high c.ranges.high)
    (subst (λ l. AreVisitsNoted arrays noted (walk arrays (phases_work phases var l high vars))) (to_z-of_z w64 c.args.low c.ranges.low) all)

pub note_statement-returns-then-not-note_block-clause-wider : goal.note_statement-returns-then-not-note_block-clause-wider
note_statement-returns-then-not-note_block-clause-wider t c =
    wider_trans c.args.touches.now c.note_reads.new.touches c.note_block.new.touches c.note_reads.ensures.wider c.note_block.ensures.wider

pub note_statement-returns-else-not-note_block-clause-wider : goal.note_statement-returns-else-not-note_block-clause-wider
note_statement-returns-else-not-note_block-clause-wider t c =
    wider_trans c.args.touches.now c.note_reads.new.touches c.note_block-in-If.new.touches c.note_reads.ensures.wider
    (wider_trans c.note_reads.new.touches c.note_block.new.touches c.note_block-in-If.new.touches c.note_block.ensures.wider c.note_block-in-If.ensures.wider)

pub note_statement-returns-else-not-note_block-clause-noted : goal.note_statement-returns-else-not-note_block-clause-noted
note_statement-returns-else-not-note_block-clause-noted t c =
    let arrays = c.args.layout.now in
    let bounds = bounds_of c.args.ranges.now in
    let test = expression_of c.in-If.cond in
    let first = sequence_of c.in-If.then_block in
    let second = sequence_of c.in-If.else_block in
    let after = c.note_block-in-If.new.touches in
    rw (c.in-If.is, statement-if)
    (OnTrue_from c.note_block-in-If.result (IsWorkNoted arrays after bounds (statement_work (If c.in-If.line test first second)))
    (λ yes. choice_noted arrays c.note_reads.new.touches c.note_block.new.touches after bounds test first second
    c.if-not-note_reads.ensures.noted c.note_block.ensures.wider c.if-not-note_block.ensures.noted c.note_block-in-If.ensures.wider (OnTrue_at yes c.note_block-in-If.ensures.noted) c.in-If.line))

pub note_loop-returns-clause-noted : goal.note_loop-returns-clause-noted
note_loop-returns-clause-noted t c =
    let arrays = c.args.layout.now in
    let bounds = bounds_of c.args.ranges.now in
    let low = c.args.low in
    let high = c.args.high in
    let body = sequence_work (sequence_of c.args.body.now) in
    let after = c.note_block.new.touches in
    let test = c.if-low-high.false in
    let fits : FitsSigned w64 low = c.ranges.low in
    let fits' : FitsSigned w64 high = c.ranges.high in
    let some : low <ℤ high = grind (arith, ints) in
    let within = noted low (to_z w64 (of_z w64 high) -ℤ pos 1) in
    let lies : (x : ℤ) → low ≤ℤ x → x <ℤ high → LiesIn within x = λ x from to. record { low = omega (arith, ints); high = omega (arith, ints) } in
    OnTrue_from c.note_block.result (IsWorkNoted arrays after bounds (loop c.args.var.now low high body))
    (λ yes. loop_noted arrays after bounds c.args.var.now low high within body some lies (OnTrue_at yes c.note_block.ensures.noted))
