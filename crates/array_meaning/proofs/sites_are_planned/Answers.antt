use Rattle.array_meaning.proofs.PlanLemmas.{sequence_sites_length}
use Rattle.array_meaning.proofs.sites_are_planned.Goals as goal

pub returns : goal.returns
returns c body vars = sequence_sites_length body vars
