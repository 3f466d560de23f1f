use Rattle.entered_laws.proofs.Parts.{parts_are_spans}
use Rattle.entered_laws.proofs.parts_are_spans.Goals as goal

pub returns : goal.returns
returns c = parts_are_spans
