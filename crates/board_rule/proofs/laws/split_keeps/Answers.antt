use Rattle.board_rule.proofs.Opens.{split_keeps}
use Rattle.board_rule.proofs.laws.split_keeps.Goals as goal

pub returns : goal.returns
returns c = split_keeps
