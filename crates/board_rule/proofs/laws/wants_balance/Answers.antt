use Rattle.board_rule.proofs.Follows.{wants_balance}
use Rattle.board_rule.proofs.laws.wants_balance.Goals as goal

pub returns : goal.returns
returns c = wants_balance
