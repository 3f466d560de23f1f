use Rattle.journal_picture.proofs.Visited.{guests_reached}
use Rattle.journal_picture.proofs.laws.guests_are_reached.Goals as goal

pub returns : goal.returns
returns c = guests_reached
