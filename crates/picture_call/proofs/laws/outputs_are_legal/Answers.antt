use Rattle.picture_call.proofs.LawsHold.{outputs_legal}
use Rattle.picture_call.proofs.laws.outputs_are_legal.Goals as goal

pub returns : goal.returns
returns c = outputs_legal
