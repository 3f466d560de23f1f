use Rattle.journal_picture.proofs.StripHolds.{red_missed}
use Rattle.journal_picture.proofs.laws.red_is_missed.Goals as goal

pub returns : goal.returns
returns c = red_missed
