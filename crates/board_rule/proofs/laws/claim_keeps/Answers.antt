use Rattle.board_rule.proofs.Claims.{claim_keeps}
use Rattle.board_rule.proofs.laws.claim_keeps.Goals as goal

pub returns : goal.returns
returns c = claim_keeps
