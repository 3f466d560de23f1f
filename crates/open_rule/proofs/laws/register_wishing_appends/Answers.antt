use Rattle.open_rule.proofs.Chains.{registers_wishing}
use Rattle.open_rule.proofs.laws.register_wishing_appends.Goals as goal

pub returns : goal.returns
returns c = registers_wishing
