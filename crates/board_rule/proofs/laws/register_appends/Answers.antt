use Rattle.board_rule.proofs.Registers.{register_appends}
use Rattle.board_rule.proofs.laws.register_appends.Goals as goal

pub returns : goal.returns
returns c = register_appends
