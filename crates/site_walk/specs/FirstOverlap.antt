-- The first overlap of two pieces of a site.
use Rattle.std.specs.Prelude.{ℕ, List, [], ◌∷◌, Option, Some, None}
use Rattle.array_tree.specs.Trees.{ProgramTree}
use Rattle.array_meaning.specs.Stores.{Arrays, arrays_of, cells_of}
use Rattle.array_meaning.specs.Steps.{Steps}
use Rattle.array_meaning.specs.Overlap.{overlap}
use Rattle.array_meaning.specs.Sites.{Site, sequence_sites}
use Rattle.site_walk.specs.declared.fault.WalkFault.{WalkFault}
use Rattle.site_walk.specs.declared.fault.WalkFault.TheVariants.{Overlap}
use Rattle.std.specs.Option.{option_or}
use Rattle.site_walk.specs.Firsts.{first_of}
use Rattle.site_walk.specs.Outside.{out_of_range_of}

-- The fault of an overlap on a cell, with its construct's line.
abbrev pub cell_fault : ℕ → Option ℕ → Option WalkFault
cell_fault line None = None
cell_fault line (Some cell) = Some (Overlap line cell)

-- The fault of the first of the rounds in which two pieces overlap, with the least cell on which they do.
abbrev pub rounds_fault : Arrays → ℕ → List (List Steps) → Option WalkFault
rounds_fault arrays line [] = None
rounds_fault arrays line (round ∷ more) =
    option_or (cell_fault line (overlap arrays (cells_of arrays) round))
    (rounds_fault arrays line more)

-- The fault of a site.
abbrev pub site_overlap : Arrays → Site → Option WalkFault
site_overlap arrays site = rounds_fault arrays site.line site.rounds

-- The first overlap of a program's sites, in the order of its plan: the construct's line, and the least cell (in a `team`, of
-- its first phase with an overlap).
abbrev pub overlap_of : ProgramTree → Option WalkFault
overlap_of program = first_of (site_overlap (arrays_of program.arrays)) (sequence_sites program.body [])

-- The result of the walk: an index outside its array, or else an overlap.
abbrev pub walk_fault_of : ProgramTree → Option WalkFault
walk_fault_of program = option_or (out_of_range_of program) (overlap_of program)
