use Rattle.entered_laws.proofs.Parts.{programs_are_parts}
use Rattle.entered_laws.proofs.programs_are_parts.Goals as goal

pub returns : goal.returns
returns c = programs_are_parts
