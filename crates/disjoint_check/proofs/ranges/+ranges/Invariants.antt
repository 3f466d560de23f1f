use Rattle.std.proofs.Common.{◌≡◌, drop, map}
use Rattle.array_tree.specs.Trees.{statement_of, sequence_of, sequences_of, sequence, sequences}
use Rattle.disjoint_check.specs.FirstRanges.{range_fault_in, range_fault_among}
use Rattle.disjoint_check.proofs.ranges.+ranges.Given as goal

abbrev pub invariant-range_fault_in_block-loop-statement : goal.invariant-range_fault_in_block-loop-statement
invariant-range_fault_in_block-loop-statement l =
    range_fault_in (sequence (map statement_of (drop l.statement-index l.statement-items))) ≡ range_fault_in (sequence_of l.block)

abbrev pub invariant-range_fault_among-loop-block : goal.invariant-range_fault_among-loop-block
invariant-range_fault_among-loop-block l =
    range_fault_among (sequences (map sequence_of (drop l.block-index l.block-items))) ≡ range_fault_among (sequences_of l.blocks)
