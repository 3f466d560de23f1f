use Rattle.board_rule.proofs.Looks.{see_empty_keeps}
use Rattle.board_rule.proofs.laws.see_empty_keeps.Goals as goal

pub returns : goal.returns
returns c = see_empty_keeps
