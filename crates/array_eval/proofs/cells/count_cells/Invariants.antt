use Rattle.std.proofs.Common.{◌≡◌, ◌≤◌, ◌+◌, drop, map}
use Rattle.array_tree.specs.Trees.{declarations_of, declaration_of}
use Rattle.array_meaning.specs.Stores.{arrays_of, cells_of}
use Rattle.array_eval.proofs.cells.count_cells.Given as goal

abbrev pub invariant-loop-array : goal.invariant-loop-array
invariant-loop-array l = record {
  whole : l.count + cells_of (arrays_of (map declaration_of (drop l.array-index l.array-items))) ≡ cells_of (arrays_of (declarations_of l.arrays));
  small : cells_of (arrays_of (declarations_of l.arrays)) ≤ 4096;
}
