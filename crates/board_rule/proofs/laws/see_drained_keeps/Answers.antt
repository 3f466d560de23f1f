use Rattle.board_rule.proofs.Looks.{see_drained_keeps}
use Rattle.board_rule.proofs.laws.see_drained_keeps.Goals as goal

pub returns : goal.returns
returns c = see_drained_keeps
