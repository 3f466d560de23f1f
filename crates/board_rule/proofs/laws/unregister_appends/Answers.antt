use Rattle.board_rule.proofs.Moves.{unregister_appends}
use Rattle.board_rule.proofs.laws.unregister_appends.Goals as goal

pub returns : goal.returns
returns c = unregister_appends
