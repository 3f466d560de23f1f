use Rattle.std.proofs.Common.{◌≡◌, ◌≤◌, ◌+◌, drop, map}
use Rattle.array_tree.specs.Trees.{declaration_of}
use Rattle.array_meaning.specs.Stores.{arrays_of, cells_of, base_of, length_of, HaveCells}
use Rattle.array_eval.specs.Layouts.{number_of}
use Rattle.array_eval.proofs.layout.place_among.Given as goal

abbrev pub invariant-loop-array : goal.invariant-loop-array
invariant-loop-array l = record {
  count : l.number ≡ l.fn.first.number + l.array-index;
  number : l.number + number_of (arrays_of (map declaration_of (drop l.array-index l.declarations))) l.name ≡ l.fn.first.number + number_of (arrays_of (map declaration_of l.declarations)) l.name;
  base : l.base + base_of (arrays_of (map declaration_of (drop l.array-index l.declarations))) l.name ≡ l.fn.first.base + base_of (arrays_of (map declaration_of l.declarations)) l.name;
  length : length_of (arrays_of (map declaration_of (drop l.array-index l.declarations))) l.name ≡ length_of (arrays_of (map declaration_of l.declarations)) l.name;
  small : l.base + cells_of (arrays_of (map declaration_of (drop l.array-index l.declarations))) ≤ 4096;
  each : HaveCells (arrays_of (map declaration_of (drop l.array-index l.declarations)));
}
