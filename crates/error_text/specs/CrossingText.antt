-- The line for a program whose members can't overtake.
use Rattle.std.specs.Prelude.{ℕ, List, [], ◌++◌, codes}
use Rattle.array_tree.specs.Trees.{ProgramTree}
use Rattle.array_meaning.specs.Stores.{arrays_of}
use Rattle.pipe_walk.specs.declared.fault.PipeFault.{PipeFault}
use Rattle.pipe_walk.specs.declared.fault.PipeFault.TheVariants.{Crossing, Memory}
use Rattle.error_text.specs.RefusalText.{cell_text, line_text}

-- The line of a crossing; none for an allocation failure.
abbrev pub crossing_text : ProgramTree → PipeFault → List ℕ
crossing_text program (Crossing line cell) =
    codes "refused: " ++ codes "crossing on " ++ cell_text (arrays_of program.arrays) cell ++ line_text line
crossing_text program Memory = []
