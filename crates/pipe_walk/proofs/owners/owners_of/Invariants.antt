use Rattle.std.proofs.Common.{◌≡◌, ◌++◌, drop, map}
use Rattle.array_tree.specs.Trees.{declaration_of}
use Rattle.array_meaning.specs.Stores.{arrays_of}
use Rattle.pipe_walk.specs.Inside.Owners.{owners_from}
use Rattle.pipe_walk.proofs.owners.owners_of.Given as goal

-- The remaining arrays have the remaining cells.
abbrev pub invariant-loop-number : goal.invariant-loop-number
invariant-loop-number l =
    l.owners.items ++ owners_from l.number (arrays_of (map declaration_of (drop l.number l.array-items))) ≡ owners_from 0 l.layout
