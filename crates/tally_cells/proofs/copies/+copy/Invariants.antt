use Rattle.std.proofs.Common.{◌≡◌, drop, map}
use Rattle.array_tree.specs.Trees.{statement_of, sequence_of, sequences_of, sequence, sequences}
use Rattle.spread_laws.specs.Spread.{and_rest}
use Rattle.spread_laws.specs.Served.{IsNarrowSequence, AreNarrow}
use Rattle.tally_cells.proofs.Pushed.{and_beside}
use Rattle.tally_cells.proofs.copies.+copy.Given as goal

abbrev pub invariant-copy_block-loop-statement : goal.invariant-copy_block-loop-statement
invariant-copy_block-loop-statement l = record {
  copied : and_rest (map statement_of l.statements.items) (sequence (map statement_of (drop l.statement-index l.statement-items))) ≡ sequence_of l.block;
  narrow : IsNarrowSequence (sequence (map statement_of (drop l.statement-index l.statement-items))) → IsNarrowSequence (sequence_of l.block);
}

abbrev pub invariant-copy_blocks-loop-block : goal.invariant-copy_blocks-loop-block
invariant-copy_blocks-loop-block l = record {
  copied : and_beside (map sequence_of l.copies.items) (sequences (map sequence_of (drop l.block-index l.block-items))) ≡ sequences_of l.blocks;
  narrow : AreNarrow (sequences (map sequence_of (drop l.block-index l.block-items))) → AreNarrow (sequences_of l.blocks);
}
