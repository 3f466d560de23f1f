use Rattle.std.proofs.Common.{◌≡◌, drop, map}
use Rattle.array_tree.specs.Trees.{statement_of, sequence_of, sequences_of, sequence, sequences}
use Rattle.site_walk.specs.Visits.{after}
use Rattle.array_meaning.specs.Work.{sequence_work, branches_work, phases_work, loop}
use Rattle.array_eval.specs.Views.{vars_of}
use Rattle.site_walk.proofs.visits.+visit.Given as goal

-- The remaining statements from the state so far give what all statements give from the start.
abbrev pub invariant-visit_block-loop-statement : goal.invariant-visit_block-loop-statement
invariant-visit_block-loop-statement g l =
    after (g.V.Visits.noted l.visits l.layout) l.layout (sequence_work (sequence (map statement_of (drop l.statement-index l.statement-items))) (vars_of l.scope)) l.notes
    ≡ after (g.V.Visits.noted l.visits l.layout) l.layout (sequence_work (sequence_of l.block) (vars_of l.scope)) l.fn.notes

abbrev pub invariant-visit_branches-loop-branch : goal.invariant-visit_branches-loop-branch
invariant-visit_branches-loop-branch g l =
    after (g.V.Visits.noted l.visits l.layout) l.layout (branches_work (sequences (map sequence_of (drop l.branch-index l.branch-items))) (vars_of l.scope)) l.notes
    ≡ after (g.V.Visits.noted l.visits l.layout) l.layout (branches_work (sequences_of l.branches) (vars_of l.scope)) l.fn.notes

abbrev pub invariant-visit_loop-loop-number : goal.invariant-visit_loop-loop-number
invariant-visit_loop-loop-number g l =
    after (g.V.Visits.noted l.visits l.layout) l.layout (loop l.turns.var.now l.number l.turns.high (sequence_work (sequence_of l.body)) (vars_of l.scope)) l.notes
    ≡ after (g.V.Visits.noted l.visits l.layout) l.layout (loop l.turns.var.now l.turns.low l.turns.high (sequence_work (sequence_of l.body)) (vars_of l.scope)) l.fn.notes

abbrev pub invariant-visit_phases-loop-phase : goal.invariant-visit_phases-loop-phase
invariant-visit_phases-loop-phase g l =
    after (g.V.Visits.noted l.visits l.layout) l.layout (phases_work (sequences (map sequence_of (drop l.phase-index l.phase-items))) l.turns.var.now l.turns.low l.turns.high (vars_of l.scope)) l.notes
    ≡ after (g.V.Visits.noted l.visits l.layout) l.layout (phases_work (sequences_of l.phases) l.turns.var.now l.turns.low l.turns.high (vars_of l.scope)) l.fn.notes
