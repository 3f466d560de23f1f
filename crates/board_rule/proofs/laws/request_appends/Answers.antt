use Rattle.board_rule.proofs.Registers.{request_appends}
use Rattle.board_rule.proofs.laws.request_appends.Goals as goal

pub returns : goal.returns
returns c = request_appends
