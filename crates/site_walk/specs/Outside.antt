-- The first static index outside its array.
use Rattle.std.specs.Prelude.{ℕ, [], Option, Some, None, ℤ, if◌then◌else◌}
use Rattle.array_tree.specs.Trees.{ProgramTree}
use Rattle.array_meaning.specs.Stores.{Arrays, arrays_of, length_of}
use Rattle.array_meaning.specs.Work.{sequence_work}
use Rattle.array_meaning.specs.Touch.{Visit, walk}
use Rattle.array_meaning.specs.Accepted.{is_inside}
use Rattle.site_walk.specs.Firsts.{first_of}
use Rattle.site_walk.specs.declared.fault.WalkFault.{WalkFault}
use Rattle.site_walk.specs.declared.fault.WalkFault.TheVariants.{OutOfRange}

-- The fault of an index outside an array of this length.
abbrev pub index_fault : ℕ → ℕ → Option ℤ → Option WalkFault
index_fault line length None = None
index_fault line length (Some index) =
    if is_inside length (Some index) then None else Some (OutOfRange line index length)

-- The fault of a visit.
abbrev pub visit_fault : Arrays → Visit → Option WalkFault
visit_fault arrays v = index_fault v.line (length_of arrays v.array) v.index

-- The fault of a program's first static index outside its array, with the line of the assignment or `if` whose own expressions
-- have the index.
abbrev pub out_of_range_of : ProgramTree → Option WalkFault
out_of_range_of program =
    let arrays = arrays_of program.arrays in
    first_of (visit_fault arrays) (walk arrays (sequence_work program.body []))
