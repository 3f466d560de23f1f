use Rattle.std.proofs.Common.{◌≡◌, drop, map}
use Rattle.array_tree.specs.Trees.{expression_of, sequence_of, sequences_of, sequences}
use Rattle.spread_laws.specs.Spread.{spread_phases}
use Rattle.spread_laws.specs.Served.{AreNarrow}
use Rattle.tally_cells.proofs.Pushed.{and_beside}
use Rattle.tally_cells.proofs.inside.spread_phases.Given as goal

abbrev pub invariant-loop-phase : goal.invariant-loop-phase
invariant-loop-phase l = record {
  spread : and_beside (map sequence_of l.blocks.items) (spread_phases l.layout (expression_of l.row) (sequences (map sequence_of (drop l.phase-index l.phase-items))))
      ≡ spread_phases l.layout (expression_of l.row) (sequences_of l.phases);
  narrow : AreNarrow (sequences (map sequence_of (drop l.phase-index l.phase-items))) → AreNarrow (sequences_of l.phases);
}
