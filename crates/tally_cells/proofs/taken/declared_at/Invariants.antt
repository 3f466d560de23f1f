use Rattle.std.proofs.Common.{◌≡◌, drop, map}
use Rattle.array_tree.specs.Trees.{declaration_of}
use Rattle.spread_laws.specs.Faults.{declared_at}
use Rattle.tally_cells.proofs.taken.declared_at.Given as goal

abbrev pub invariant-loop-array : goal.invariant-loop-array
invariant-loop-array l = declared_at l.names (map declaration_of (drop l.array-index l.arrays)) ≡ declared_at l.names (map declaration_of l.arrays)
