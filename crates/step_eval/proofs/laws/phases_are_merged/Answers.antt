use Rattle.step_eval.proofs.PhaseLemmas.{phases_are_merged}
use Rattle.step_eval.proofs.laws.phases_are_merged.Goals as goal

pub returns : goal.returns
returns c = phases_are_merged
