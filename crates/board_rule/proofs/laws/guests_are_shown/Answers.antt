use Rattle.board_rule.proofs.Bounds.{guests_are_shown}
use Rattle.board_rule.proofs.laws.guests_are_shown.Goals as goal

pub returns : goal.returns
returns c = guests_are_shown
