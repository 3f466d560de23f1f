use Rattle.array_print.proofs.PrintedPrograms.{writable_spells, spelled_writable}
use Rattle.array_print.proofs.laws.writable_programs_are_spelled.Goals as goal

pub returns-clause-spelled : goal.returns-clause-spelled
returns-clause-spelled c = writable_spells

pub returns-clause-only : goal.returns-clause-only
returns-clause-only c = spelled_writable
