use Rattle.std.proofs.Common.{◌≤◌, ◌+◌, drop, map}
use Rattle.array_tree.specs.Trees.{declarations_of, declaration_of}
use Rattle.array_meaning.specs.Stores.{arrays_of, cells_of, HaveCells, AreSized}
use Rattle.language_tests.proofs.programs.are_sized.Given as goal

-- All arrays have room if the remaining ones have.
abbrev pub invariant-loop-array : goal.invariant-loop-array
invariant-loop-array l = record {
  small : l.cells ≤ 4096;
  room : HaveCells (arrays_of (map declaration_of (drop l.array-index l.array-items))) →
      l.cells + cells_of (arrays_of (map declaration_of (drop l.array-index l.array-items))) ≤ 4096 →
      AreSized (arrays_of (declarations_of l.arrays));
}
