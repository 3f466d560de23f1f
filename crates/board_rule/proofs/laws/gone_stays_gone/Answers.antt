use Rattle.board_rule.proofs.Follows.{gone_stays_gone}
use Rattle.board_rule.proofs.laws.gone_stays_gone.Goals as goal

pub returns : goal.returns
returns c = gone_stays_gone
