use Rattle.board_rule.proofs.Dones.{close_keeps}
use Rattle.board_rule.proofs.laws.close_keeps.Goals as goal

pub returns : goal.returns
returns c = close_keeps
