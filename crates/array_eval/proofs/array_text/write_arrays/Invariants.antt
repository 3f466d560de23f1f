use Rattle.std.proofs.Common.{◌≡◌, ◌++◌, drop, map, length}
use Rattle.array_tree.specs.Trees.{declaration_of, program_of}
use Rattle.array_meaning.specs.Stores.{arrays_of, cells_of}
use Rattle.array_eval.specs.ArrayText.{array_lines, array_text}
use Rattle.array_eval.proofs.array_text.write_arrays.Given as goal

abbrev pub invariant-loop-array : goal.invariant-loop-array
invariant-loop-array l = record {
  whole : l.text.items ++ array_lines (arrays_of (map declaration_of (drop l.array-index l.array-items))) l.rest ≡ array_text (program_of l.program) l.store;
  cells : length l.rest ≡ cells_of (arrays_of (map declaration_of (drop l.array-index l.array-items)));
}
