-- The line for a program whose branches and members can't have rows of their own.
use Rattle.std.specs.Prelude.{ℕ, List, [], ◌++◌, codes}
use Rattle.tally_cells.specs.declared.fault.TallyFault.{TallyFault}
use Rattle.tally_cells.specs.declared.fault.TallyFault.TheVariants.{Unshaped, NameTaken, Memory}
use Rattle.error_text.specs.RefusalText.{line_text}

-- The line of a fault; none for an allocation failure.
abbrev pub tally_text : TallyFault → List ℕ
tally_text (Unshaped line) = codes "refused: accumulation" ++ line_text line
tally_text (NameTaken line) = codes "refused: name taken" ++ line_text line
tally_text Memory = []
