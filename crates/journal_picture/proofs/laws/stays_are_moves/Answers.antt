use Rattle.journal_picture.proofs.Travelled.{stays_moved}
use Rattle.journal_picture.proofs.laws.stays_are_moves.Goals as goal

pub returns : goal.returns
returns c = stays_moved
