use Rattle.std.proofs.Common.{◌≡◌, drop, map}
use Rattle.array_tree.specs.Trees.{statement_of, sequence_of, sequences_of, sequence, sequences}
use Rattle.spread_laws.specs.Faults.{unshaped, any_unshaped}
use Rattle.tally_cells.proofs.unshaped.+unshaped.Given as goal

abbrev pub invariant-unshaped_in_block-loop-statement : goal.invariant-unshaped_in_block-loop-statement
invariant-unshaped_in_block-loop-statement l = unshaped l.depth (sequence (map statement_of (drop l.statement-index l.statement-items))) ≡ unshaped l.depth (sequence_of l.block)

abbrev pub invariant-unshaped_among-loop-block : goal.invariant-unshaped_among-loop-block
invariant-unshaped_among-loop-block l = any_unshaped l.depth (sequences (map sequence_of (drop l.block-index l.block-items))) ≡ any_unshaped l.depth (sequences_of l.blocks)
