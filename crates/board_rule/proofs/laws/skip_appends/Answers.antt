use Rattle.board_rule.proofs.Registers.{skip_appends}
use Rattle.board_rule.proofs.laws.skip_appends.Goals as goal

pub returns : goal.returns
returns c = skip_appends
