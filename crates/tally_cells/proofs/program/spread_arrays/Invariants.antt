use Rattle.std.proofs.Common.{◌≡◌, ◌++◌, drop, map}
use Rattle.array_tree.specs.Trees.{declaration_of, declarations_of}
use Rattle.tally_cells.proofs.program.spread_arrays.Given as goal

abbrev pub invariant-loop-array : goal.invariant-loop-array
invariant-loop-array l = map declaration_of l.declarations.items ++ map declaration_of (drop l.array-index l.array-items) ≡ declarations_of l.program.arrays
