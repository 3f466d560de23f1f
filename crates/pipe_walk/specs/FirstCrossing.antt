-- The first crossing of two pieces of a site.
use Rattle.std.specs.Prelude.{Option}
use Rattle.std.specs.Option.{option_map}
use Rattle.array_tree.specs.Trees.{ProgramTree}
use Rattle.array_meaning.specs.Stores.{Arrays, cells_of}
use Rattle.array_meaning.specs.Sites.{Site}
use Rattle.phase_order.specs.Crossings.{IsFirstCrossing}
use Rattle.phase_order.specs.Tests.{crossing}
use Rattle.pipe_walk.specs.declared.fault.PipeFault.{PipeFault}
use Rattle.pipe_walk.specs.declared.fault.PipeFault.TheVariants.{Crossing, Memory}

-- A fault names the first crossing of a program. An allocation failure names nothing.
abbrev pub IsFaultOf : ProgramTree → PipeFault → Type 0
IsFaultOf program (Crossing line cell) = IsFirstCrossing program line cell
IsFaultOf program Memory = Unit {0}

-- The fault of a site: its construct's line, and the least cell on which two of its pieces cross.
abbrev pub site_crossing : Arrays → Site → Option PipeFault
site_crossing arrays site =
    option_map (Crossing site.line) (crossing arrays (cells_of arrays) site.rounds)
