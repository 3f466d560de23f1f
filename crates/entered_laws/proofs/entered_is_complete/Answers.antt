use Rattle.entered_laws.proofs.Parts.{entered_is_complete}
use Rattle.entered_laws.proofs.entered_is_complete.Goals as goal

pub returns : goal.returns
returns c = entered_is_complete
