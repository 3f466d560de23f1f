use Rattle.std.proofs.Common.{◌≡◌, ◌+◌, drop, map}
use Rattle.array_tree.specs.Trees.{declarations_of, declaration_of}
use Rattle.array_meaning.specs.Stores.{arrays_of}
use Rattle.site_walk.specs.Inside.Numbers.{array_at}
use Rattle.site_walk.proofs.places.number_among.Given as goal

abbrev pub invariant-loop-number : goal.invariant-loop-number
invariant-loop-number l =
    l.number + array_at (arrays_of (map declaration_of (drop l.number l.array-items))) l.rest ≡ array_at (arrays_of (declarations_of l.arrays)) l.cell
