-- The errors of the code, by the faults of the definitions.
use Rattle.tally_cells.specs.declared.fault.TallyFault.{TallyFault}
use Rattle.tally_cells.specs.declared.fault.TallyFault.TheVariants.{Unshaped, NameTaken}
use Rattle.spread_laws.specs.Faults.{SpreadFault, UnshapedAt, NameTakenAt}

-- The code's error for a fault, with the same line.
abbrev pub reported_of : SpreadFault → TallyFault
reported_of (UnshapedAt line) = Unshaped line
reported_of (NameTakenAt line) = NameTaken line
