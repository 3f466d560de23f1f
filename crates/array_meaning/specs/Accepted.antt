-- What a program must be to be run: nine conditions, each a definition of its own.
use Rattle.std.specs.Prelude.{ℕ, ◌≤◌, Bool, true, ◌&&◌, List, [], ◌∷◌, Option, Some, None, IsTrue, ℤ, pos, int_le, int_lt}
use Rattle.array_tree.specs.Trees.{ProgramTree}
use Rattle.array_meaning.specs.Bounds.{most_depth, most_units, most_sites, most_pieces}
use Rattle.array_meaning.specs.Stores.{Arrays, arrays_of, length_of}
use Rattle.array_meaning.specs.Work.{sequence_work}
use Rattle.array_meaning.specs.Touch.{Visit, walk}
use Rattle.array_meaning.specs.Sites.{sequence_sites, AreSitesApart}
use Rattle.array_meaning.specs.Plans.{sites_in}
use Rattle.array_meaning.specs.Names.{has_single_names, has_only_known_names}
use Rattle.array_meaning.specs.Limits.{is_in_range, depth_of, units_of, pieces_in}

-- The test decides whether an index is one of a cell of an array of this length. A dynamic index always is.
abbrev pub is_inside : ℕ → Option ℤ → Bool
is_inside length None = true
is_inside length (Some index) = int_le (pos 0) index && int_lt index (pos length)

-- The test decides whether each static index of a walk is inside its array.
abbrev pub are_inside : Arrays → List Visit → Bool
are_inside arrays [] = true
are_inside arrays (v ∷ more) =
    is_inside (length_of arrays v.array) v.index && are_inside arrays more

-- The test decides whether each static index of the program's walk is inside its array.
abbrev pub has_indices_inside : ProgramTree → Bool
has_indices_inside program =
    let arrays = arrays_of program.arrays in
    are_inside arrays (walk arrays (sequence_work program.body []))

-- At each site of the program, the pieces of each round are apart.
abbrev pub HasApartSites : ProgramTree → Type 0
HasApartSites program = AreSitesApart (arrays_of program.arrays) (sequence_sites program.body [])

-- A program is accepted if it meets these conditions. None of them depends on a number of harts.
pub record IsAccepted (program : ProgramTree) : Type 0 where
  pub single_names : IsTrue (has_single_names program)
  pub known_names : IsTrue (has_only_known_names program)
  pub ranges : IsTrue (is_in_range program)
  pub levels : depth_of program.body ≤ most_depth
  pub work : units_of program.body ≤ most_units
  pub sites : sites_in program.body ≤ most_sites
  pub pieces : pieces_in program.body ≤ most_pieces
  pub indices : IsTrue (has_indices_inside program)
  pub apart : HasApartSites program
