use Rattle.open_rule.proofs.Joins.{join_keeps}
use Rattle.open_rule.proofs.laws.join_keeps.Goals as goal

pub returns : goal.returns
returns c = join_keeps
