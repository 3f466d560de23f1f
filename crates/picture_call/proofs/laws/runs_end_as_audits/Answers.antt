use Rattle.picture_call.proofs.LawsHold.{runs_end, runs_fail}
use Rattle.picture_call.proofs.laws.runs_end_as_audits.Goals as goal

pub returns-clause-ends : goal.returns-clause-ends
returns-clause-ends c = runs_end

pub returns-clause-fails : goal.returns-clause-fails
returns-clause-fails c = runs_fail
