use Rattle.std.proofs.Common.{◌≡◌, ◌≤◌, drop, map}
use Rattle.array_tree.specs.Trees.{declaration_of}
use Rattle.disjoint_check.specs.FirstRanges.{declarations_fault}
use Rattle.disjoint_check.proofs.ranges.declarations_fault.Given as goal

abbrev pub invariant-loop-i : goal.invariant-loop-i
invariant-loop-i l = record {
  rest : declarations_fault (map declaration_of (drop l.i l.declarations)) l.i l.cells ≡ declarations_fault (map declaration_of l.declarations) 0 0;
  small : l.cells ≤ 4096;
}
