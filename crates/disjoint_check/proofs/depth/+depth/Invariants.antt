use Rattle.std.proofs.Common.{◌≡◌, max, drop, map}
use Rattle.array_tree.specs.Trees.{statement_of, sequence_of, sequences_of, sequence, sequences}
use Rattle.array_meaning.specs.Limits.{depth_of, branches_depth_of}
use Rattle.disjoint_check.specs.LimitFault.{clamped_depth}
use Rattle.disjoint_check.proofs.depth.+depth.Given as goal

abbrev pub invariant-depth_of_block-loop-statement : goal.invariant-depth_of_block-loop-statement
invariant-depth_of_block-loop-statement l =
    max l.depth (clamped_depth (depth_of (sequence (map statement_of (drop l.statement-index l.statement-items))))) ≡ clamped_depth (depth_of (sequence_of l.block))

abbrev pub invariant-depth_among-loop-block : goal.invariant-depth_among-loop-block
invariant-depth_among-loop-block l =
    max l.depth (clamped_depth (branches_depth_of (sequences (map sequence_of (drop l.block-index l.block-items))))) ≡ clamped_depth (branches_depth_of (sequences_of l.blocks))
