use Rattle.board_rule.proofs.Dones.{seal_keeps}
use Rattle.board_rule.proofs.laws.seal_keeps.Goals as goal

pub returns : goal.returns
returns c = seal_keeps
