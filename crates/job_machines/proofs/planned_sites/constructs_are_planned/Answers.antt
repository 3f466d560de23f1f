use Rattle.job_machines.proofs.WorkLemmas.{constructs_planned}
use Rattle.job_machines.proofs.planned_sites.constructs_are_planned.Goals as goal

pub returns : goal.returns
returns c = constructs_planned
