use Rattle.std.proofs.Common.{◌≡◌, map, drop}
use Rattle.array_tree.specs.declared.tree.Stmt.TheViews.{out-Blocks}
use Rattle.array_tree.specs.Trees.{sequence, sequences, statement_of, sequence_of, sequences_of}
use Rattle.array_tree.specs.Equal.{sequence_eq, sequences_eq}
use Rattle.array_tree.proofs.equal.+equal.Given as goal

-- The lists are equal iff the rests are.
abbrev pub invariant-same_block-loop-i : goal.invariant-same_block-loop-i
invariant-same_block-loop-i l =
    sequence_eq (sequence (map statement_of (drop l.i l.statement-items))) (sequence (map statement_of (drop l.i l.b.statements.items)))
    ≡ sequence_eq (sequence_of l.a) (sequence_of l.b)

abbrev pub invariant-same_blocks-loop-i : goal.invariant-same_blocks-loop-i
invariant-same_blocks-loop-i l =
    sequences_eq (sequences (map sequence_of (drop l.i l.block-items))) (sequences (map sequence_of (drop l.i (out-Blocks l.b).blocks.items)))
    ≡ sequences_eq (sequences_of l.a) (sequences_of l.b)
