use Rattle.job_machines.proofs.WorkLemmas.{steps_raise}
use Rattle.job_machines.proofs.planned_sites.steps_raise_numbers.Goals as goal

pub returns : goal.returns
returns c = steps_raise
