use Rattle.board_rule.proofs.Bounds.{guests_are_few}
use Rattle.board_rule.proofs.laws.guests_are_few.Goals as goal

pub returns : goal.returns
returns c = guests_are_few
