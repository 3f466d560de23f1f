use Rattle.std.proofs.Common.{◌≡◌, ◌++◌, drop, map}
use Rattle.std.specs.List.{filter}
use Rattle.array_tree.specs.Trees.{sequence_of, declaration_of}
use Rattle.spread_laws.specs.Rows.{is_tallied}
use Rattle.spread_laws.specs.Faults.{needed_names}
use Rattle.tally_cells.proofs.taken.needed_names.Given as goal

-- The names so far, and those of the remaining arrays.
abbrev pub invariant-loop-array : goal.invariant-loop-array
invariant-loop-array l =
    l.names.items ++ needed_names (filter (λ d. is_tallied (sequence_of l.body) d.name) (map declaration_of (drop l.array-index l.arrays)))
    ≡ needed_names (filter (λ d. is_tallied (sequence_of l.body) d.name) (map declaration_of l.arrays))
