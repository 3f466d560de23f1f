use Rattle.board_rule.proofs.Moves.{yield_appends}
use Rattle.board_rule.proofs.laws.yield_appends.Goals as goal

pub returns : goal.returns
returns c = yield_appends
