use Rattle.open_rule.proofs.Sorts.{looks_home}
use Rattle.open_rule.proofs.laws.home_look_keeps.Goals as goal

pub returns : goal.returns
returns c = looks_home
