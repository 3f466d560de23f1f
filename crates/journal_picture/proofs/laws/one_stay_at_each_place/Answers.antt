use Rattle.journal_picture.proofs.LawsHold.{one_stay}
use Rattle.journal_picture.proofs.laws.one_stay_at_each_place.Goals as goal

pub returns : goal.returns
returns c = one_stay
