use Rattle.board_rule.proofs.Jots.{jot_keeps}
use Rattle.board_rule.proofs.laws.jot_keeps.Goals as goal

pub returns : goal.returns
returns c = jot_keeps
