use Rattle.board_rule.proofs.Claims.{reserve_keeps}
use Rattle.board_rule.proofs.laws.reserve_keeps.Goals as goal

pub returns : goal.returns
returns c = reserve_keeps
