use Rattle.open_rule.proofs.Chains.{ends}
use Rattle.open_rule.proofs.laws.end_appends.Goals as goal

pub returns : goal.returns
returns c = ends
