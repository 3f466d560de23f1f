use Rattle.std.proofs.Common.{◌≡◌, ◌++◌, drop, map}
use Rattle.array_tree.specs.Trees.{statement_of, sequence_of, sequences_of, sequence, sequences}
use Rattle.picture_call.specs.Shapes.{sequence_shapes, branches_shapes, phases_shapes}
use Rattle.picture_call.proofs.shapes.+shapes.Given as goal

-- The shapes so far, and those of the rest.
abbrev pub invariant-add_block-loop-statement : goal.invariant-add_block-loop-statement
invariant-add_block-loop-statement l =
    l.shapes.items ++ sequence_shapes l.teams (sequence (map statement_of (drop l.statement-index l.statement-items)))
    ≡ l.fn.shapes.items ++ sequence_shapes l.teams (sequence_of l.block)

abbrev pub invariant-add_branches-loop-branch : goal.invariant-add_branches-loop-branch
invariant-add_branches-loop-branch l =
    l.shapes.items ++ branches_shapes l.teams (sequences (map sequence_of (drop l.branch-index l.branch-items)))
    ≡ l.fn.shapes.items ++ branches_shapes l.teams (sequences_of l.branches)

abbrev pub invariant-add_phases-loop-phase : goal.invariant-add_phases-loop-phase
invariant-add_phases-loop-phase l =
    l.shapes.items ++ phases_shapes l.teams (sequences (map sequence_of (drop l.phase-index l.phase-items))) l.iterations
    ≡ l.fn.shapes.items ++ phases_shapes l.teams (sequences_of l.phases) l.iterations
