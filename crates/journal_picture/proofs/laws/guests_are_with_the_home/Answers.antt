use Rattle.journal_picture.proofs.LawsHold.{with_home}
use Rattle.journal_picture.proofs.laws.guests_are_with_the_home.Goals as goal

pub returns : goal.returns
returns c = with_home
