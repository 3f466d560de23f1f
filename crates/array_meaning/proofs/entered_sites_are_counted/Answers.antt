use Rattle.array_meaning.proofs.EnteredLemmas.{sequence_length}
use Rattle.array_meaning.proofs.entered_sites_are_counted.Goals as goal

pub returns : goal.returns
returns c = sequence_length
