use Rattle.std.proofs.Common.{◌≡◌, drop, map}
use Rattle.array_tree.specs.Trees.{declaration_of}
use Rattle.array_meaning.specs.Names.{is_among, names_of}
use Rattle.disjoint_check.proofs.around.is_declared.Given as goal

abbrev pub invariant-loop-array : goal.invariant-loop-array
invariant-loop-array l =
    is_among l.name (names_of (map declaration_of (drop l.array-index l.declarations))) ≡ is_among l.name (names_of (map declaration_of l.declarations))
