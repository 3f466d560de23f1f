use Rattle.std.proofs.Common.{◌≡◌, drop, map}
use Rattle.array_tree.specs.Trees.{statement_of, sequence_of, sequences_of, sequence, sequences}
use Rattle.array_meaning.specs.Entered.{sequence_part, branches_part, loop_part, phases_part}
use Rattle.array_eval.specs.Views.{vars_of}
use Rattle.entered_sites.specs.Recorded.{recorded}
use Rattle.entered_sites.proofs.walk.+walk.Given as goal

-- The remaining statements from the state so far give what all statements give from the start.
abbrev pub invariant-walk_statements-loop-statement : goal.invariant-walk_statements-loop-statement
invariant-walk_statements-loop-statement l =
    recorded l.layout (sequence_part l.layout (sequence (map statement_of (drop l.statement-index l.statement-items))) (vars_of l.scope)) l.walker
    ≡ recorded l.layout (sequence_part l.layout (sequence_of l.block) (vars_of l.scope)) l.fn.walker

abbrev pub invariant-walk_branches-loop-branch : goal.invariant-walk_branches-loop-branch
invariant-walk_branches-loop-branch l =
    recorded l.layout (branches_part l.layout (sequences (map sequence_of (drop l.branch-index l.branch-items))) (vars_of l.scope)) l.walker
    ≡ recorded l.layout (branches_part l.layout (sequences_of l.branches) (vars_of l.scope)) l.fn.walker

abbrev pub invariant-walk_loop-loop-number : goal.invariant-walk_loop-loop-number
invariant-walk_loop-loop-number l =
    recorded l.layout (loop_part l.layout l.var l.number l.high (sequence_part l.layout (sequence_of l.body)) (vars_of l.scope)) l.walker
    ≡ recorded l.layout (loop_part l.layout l.var l.low l.high (sequence_part l.layout (sequence_of l.body)) (vars_of l.scope)) l.fn.walker

abbrev pub invariant-walk_phases-loop-phase : goal.invariant-walk_phases-loop-phase
invariant-walk_phases-loop-phase l =
    recorded l.layout (phases_part l.layout (sequences (map sequence_of (drop l.phase-index l.phase-items))) l.var l.low l.high (vars_of l.scope)) l.walker
    ≡ recorded l.layout (phases_part l.layout (sequences_of l.phases) l.var l.low l.high (vars_of l.scope)) l.fn.walker
