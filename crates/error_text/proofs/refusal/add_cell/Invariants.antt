use Rattle.std.proofs.Common.{◌≡◌, drop, map}
use Rattle.array_tree.specs.Trees.{declaration_of, declarations_of}
use Rattle.array_meaning.specs.Stores.{arrays_of}
use Rattle.error_text.specs.RefusalText.{cell_text}
use Rattle.error_text.proofs.refusal.add_cell.Given as goal

-- The remaining part of the cell's number is among the remaining arrays.
abbrev pub invariant-loop-array : goal.invariant-loop-array
invariant-loop-array l = record {
  same : l.text.items ≡ l.fn.text.items;
  place : cell_text (arrays_of (map declaration_of (drop l.array-index l.array-items))) l.index ≡ cell_text (arrays_of (declarations_of l.arrays)) l.cell;
}
