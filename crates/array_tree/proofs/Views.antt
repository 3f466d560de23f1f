-- The views of blocks, one level deep.
use Rattle.std.proofs.Common.{◌≡◌, map}
use Rattle.array_tree.specs.declared.tree.Block.{Block}
use Rattle.array_tree.specs.declared.tree.Blocks.{Blocks, fold_out-Blocks, out-Blocks}
use Rattle.array_tree.specs.declared.tree.Stmt.TheFolds.{fold_out-Block}
use Rattle.array_tree.specs.Trees.{Statement, Sequence, Sequences, sequence, sequences, statement_of, sequence_of, sequences_of, statement_step, block_step, blocks_step}

pub sequence_of-statements : (b : Block) → sequence_of b ≡ sequence (map statement_of b.statements.items)
sequence_of-statements b = fold_out-Block Statement Sequence Sequences statement_step block_step blocks_step b

pub sequences_of-blocks : (b : Blocks) → sequences_of b ≡ sequences (map sequence_of (out-Blocks b).blocks.items)
sequences_of-blocks b = fold_out-Blocks Statement Sequence Sequences statement_step block_step blocks_step b
