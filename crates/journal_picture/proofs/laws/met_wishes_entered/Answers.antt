use Rattle.journal_picture.proofs.Visited.{met_entered}
use Rattle.journal_picture.proofs.laws.met_wishes_entered.Goals as goal

pub returns : goal.returns
returns c = met_entered
