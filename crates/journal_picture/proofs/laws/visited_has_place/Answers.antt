use Rattle.journal_picture.proofs.Travelled.{visited_place}
use Rattle.journal_picture.proofs.laws.visited_has_place.Goals as goal

pub returns : goal.returns
returns c = visited_place
