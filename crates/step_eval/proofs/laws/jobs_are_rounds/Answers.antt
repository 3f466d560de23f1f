use Rattle.step_eval.proofs.PhaseLemmas.{jobs_are_rounds}
use Rattle.step_eval.proofs.laws.jobs_are_rounds.Goals as goal

pub returns : goal.returns
returns c = jobs_are_rounds
