use Rattle.board_rule.proofs.Looks.{see_gone_keeps}
use Rattle.board_rule.proofs.laws.see_gone_keeps.Goals as goal

pub returns : goal.returns
returns c = see_gone_keeps
