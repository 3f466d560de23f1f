use Rattle.board_rule.proofs.Dones.{credit_keeps}
use Rattle.board_rule.proofs.laws.credit_keeps.Goals as goal

pub returns : goal.returns
returns c = credit_keeps
