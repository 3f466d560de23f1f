-- The first of the nine conditions that a program fails, and its fault.
use Rattle.std.specs.Prelude.{ℕ, [], ◌∷◌, Option}
use Rattle.std.specs.Option.{option_map}
use Rattle.array_tree.specs.Trees.{ProgramTree}
use Rattle.site_walk.specs.declared.fault.WalkFault.{WalkFault}
use Rattle.site_walk.specs.declared.fault.WalkFault.TheVariants as walk
use Rattle.site_walk.specs.Outside.{out_of_range_of}
use Rattle.site_walk.specs.FirstOverlap.{overlap_of}
use Rattle.disjoint_check.specs.Faults.{first_fault}
use Rattle.disjoint_check.specs.LimitFault.{limit_fault_of}
use Rattle.disjoint_check.specs.declared.fault.CheckFault.{CheckFault}
use Rattle.disjoint_check.specs.declared.fault.CheckFault.TheVariants.{OutOfRange, Overlap, Memory}

-- The checker's fault for a fault of the walk.
abbrev pub of_walk : WalkFault → CheckFault
of_walk (walk.OutOfRange line index length) = OutOfRange line index length
of_walk (walk.Overlap line cell) = Overlap line cell
of_walk walk.Memory = Memory

-- The first condition that a program fails of those for a meaning, with so many harts: conditions on names, ranges and size,
-- and then on indices.
abbrev pub meaning_fault_of : ProgramTree → ℕ → Option CheckFault
meaning_fault_of program harts = first_fault
    (limit_fault_of program harts ∷ option_map of_walk (out_of_range_of program) ∷ [])

-- The first condition that a program fails of those to be accepted: the same, and then that no two pieces overlap.
abbrev pub check_fault_of : ProgramTree → ℕ → Option CheckFault
check_fault_of program harts = first_fault
    (limit_fault_of program harts
    ∷ option_map of_walk (out_of_range_of program)
    ∷ option_map of_walk (overlap_of program)
    ∷ [])
