use Rattle.std.proofs.Common.{◌≡◌, drop, map, length}
use Rattle.array_tree.specs.Trees.{sequence_of, sequences_of, sequences}
use Rattle.spread_laws.specs.Spread.{spread_branches}
use Rattle.spread_laws.specs.Served.{AreNarrow}
use Rattle.tally_cells.proofs.Pushed.{and_beside}
use Rattle.tally_cells.proofs.inside.spread_branches.Given as goal

abbrev pub invariant-loop-branch : goal.invariant-loop-branch
invariant-loop-branch l = record {
  count : length l.blocks.items ≡ l.branch-index;
  spread : and_beside (map sequence_of l.blocks.items) (spread_branches l.layout l.branch-index (sequences (map sequence_of (drop l.branch-index l.branch-items))))
      ≡ spread_branches l.layout 0 (sequences_of l.branches);
  narrow : AreNarrow (sequences (map sequence_of (drop l.branch-index l.branch-items))) → AreNarrow (sequences_of l.branches);
}
