use Rattle.std.proofs.Common.{◌≡◌, drop, map}
use Rattle.array_tree.specs.Trees.{statement_of, sequence_of, sequences_of, sequence, sequences}
use Rattle.spread_laws.specs.Faults.{looped_at, any_looped_at}
use Rattle.tally_cells.proofs.taken.+looped.Given as goal

abbrev pub invariant-looped_in_block-loop-statement : goal.invariant-looped_in_block-loop-statement
invariant-looped_in_block-loop-statement l = looped_at l.names (sequence (map statement_of (drop l.statement-index l.statement-items))) ≡ looped_at l.names (sequence_of l.block)

abbrev pub invariant-looped_among-loop-block : goal.invariant-looped_among-loop-block
invariant-looped_among-loop-block l = any_looped_at l.names (sequences (map sequence_of (drop l.block-index l.block-items))) ≡ any_looped_at l.names (sequences_of l.blocks)
