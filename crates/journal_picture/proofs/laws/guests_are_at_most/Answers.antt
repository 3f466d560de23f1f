use Rattle.journal_picture.proofs.Visited.{guests_at_most}
use Rattle.journal_picture.proofs.laws.guests_are_at_most.Goals as goal

pub returns : goal.returns
returns c = guests_at_most
