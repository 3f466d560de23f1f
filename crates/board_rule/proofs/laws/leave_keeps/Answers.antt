use Rattle.board_rule.proofs.Dones.{leave_keeps}
use Rattle.board_rule.proofs.laws.leave_keeps.Goals as goal

pub returns : goal.returns
returns c = leave_keeps
