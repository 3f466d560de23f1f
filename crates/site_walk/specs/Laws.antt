-- The meaning of the walk's results.
use Rattle.std.specs.Prelude.{◌≡◌, ◌↔◌, None, IsTrue}
use Rattle.array_tree.specs.Trees.{ProgramTree}
use Rattle.array_meaning.specs.Names.{has_only_known_names}
use Rattle.array_meaning.specs.Accepted.{has_indices_inside, HasApartSites}
use Rattle.site_walk.specs.Outside.{out_of_range_of}
use Rattle.site_walk.specs.FirstOverlap.{overlap_of}

-- The walk finds no index exactly if each static index is inside its array.
abbrev pub AreOutsidesFound : Type 0
AreOutsidesFound = (program : ProgramTree) → (out_of_range_of program ≡ None)
    ↔ IsTrue (has_indices_inside program)

-- In a program whose names are known and whose indexes are inside, the walk finds no overlap exactly if the pieces of each
-- round of each site are apart.
abbrev pub AreOverlapsFound : Type 0
AreOverlapsFound = (program : ProgramTree) → IsTrue (has_only_known_names program)
    → IsTrue (has_indices_inside program) →
    (overlap_of program ≡ None) ↔ HasApartSites program
