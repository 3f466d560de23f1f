use Rattle.open_rule.proofs.Sorts.{withdraws}
use Rattle.open_rule.proofs.laws.withdraw_appends.Goals as goal

pub returns : goal.returns
returns c = withdraws
