use Rattle.open_rule.proofs.Chains.{home_sees_parent}
use Rattle.open_rule.proofs.laws.home_sees_parent.Goals as goal

pub returns : goal.returns
returns c = home_sees_parent
