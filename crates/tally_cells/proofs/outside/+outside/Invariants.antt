use Rattle.std.proofs.Common.{◌≡◌, drop, map, IsTrue}
use Rattle.array_tree.specs.Trees.{statement_of, sequence_of, sequence}
use Rattle.array_meaning.specs.Limits.{has_right_ranges}
use Rattle.spread_laws.specs.Spread.{and_rest, spread_sequence}
use Rattle.spread_laws.specs.Served.{IsNarrowSequence}
use Rattle.tally_cells.proofs.outside.+outside.Given as goal

abbrev pub invariant-spread_block-loop-statement : goal.invariant-spread_block-loop-statement
invariant-spread_block-loop-statement l = record {
  ranges : IsTrue (has_right_ranges (sequence (map statement_of (drop l.statement-index l.statement-items))));
  spread : and_rest (map statement_of l.statements.items) (spread_sequence l.layout (sequence (map statement_of (drop l.statement-index l.statement-items)))) ≡ spread_sequence l.layout (sequence_of l.block);
  narrow : IsNarrowSequence (sequence (map statement_of (drop l.statement-index l.statement-items))) → IsNarrowSequence (sequence_of l.block);
}
