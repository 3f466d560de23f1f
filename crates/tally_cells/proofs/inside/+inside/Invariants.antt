use Rattle.std.proofs.Common.{◌≡◌, drop, map}
use Rattle.array_tree.specs.Trees.{expression_of, statement_of, sequence_of, sequence}
use Rattle.spread_laws.specs.Spread.{and_rest, spread_inside}
use Rattle.spread_laws.specs.Served.{IsNarrowSequence}
use Rattle.tally_cells.proofs.inside.+inside.Given as goal

abbrev pub invariant-spread_block-loop-statement : goal.invariant-spread_block-loop-statement
invariant-spread_block-loop-statement l = record {
  spread : and_rest (map statement_of l.statements.items) (spread_inside l.layout (expression_of l.row) (sequence (map statement_of (drop l.statement-index l.statement-items))))
      ≡ spread_inside l.layout (expression_of l.row) (sequence_of l.block);
  narrow : IsNarrowSequence (sequence (map statement_of (drop l.statement-index l.statement-items))) → IsNarrowSequence (sequence_of l.block);
}
