use Rattle.step_eval.proofs.PhaseLemmas.{jobs_are_groups}
use Rattle.step_eval.proofs.laws.jobs_are_groups.Goals as goal

pub returns : goal.returns
returns c = jobs_are_groups
