use Rattle.board_rule.proofs.Dones.{land_keeps}
use Rattle.board_rule.proofs.laws.land_keeps.Goals as goal

pub returns : goal.returns
returns c = land_keeps
