use Rattle.board_rule.proofs.Moves.{enter_appends}
use Rattle.board_rule.proofs.laws.enter_appends.Goals as goal

pub returns : goal.returns
returns c = enter_appends
