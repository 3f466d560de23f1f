use Rattle.journal_picture.proofs.Travelled.{entries_made}
use Rattle.journal_picture.proofs.laws.entries_are_made.Goals as goal

pub returns : goal.returns
returns c = entries_made
