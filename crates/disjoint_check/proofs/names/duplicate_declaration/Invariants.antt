use Rattle.std.proofs.Common.{◌≡◌, [], drop, take, map, reverse}
use Rattle.array_tree.specs.Trees.{declaration_of}
use Rattle.array_meaning.specs.Names.{names_of}
use Rattle.disjoint_check.specs.FirstNames.{duplicate_declaration}
use Rattle.disjoint_check.proofs.names.duplicate_declaration.Given as goal

abbrev pub invariant-loop-i : goal.invariant-loop-i
invariant-loop-i l =
    duplicate_declaration (map declaration_of (drop l.i l.declarations)) (reverse (names_of (map declaration_of (take l.i l.declarations))))
    ≡ duplicate_declaration (map declaration_of l.declarations) []
