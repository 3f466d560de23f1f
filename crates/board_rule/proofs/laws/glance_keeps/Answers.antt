use Rattle.board_rule.proofs.Looks.{glance_keeps}
use Rattle.board_rule.proofs.laws.glance_keeps.Goals as goal

pub returns : goal.returns
returns c = glance_keeps
