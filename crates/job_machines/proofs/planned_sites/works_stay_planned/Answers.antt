use Rattle.job_machines.proofs.WorkLemmas.{works_stay}
use Rattle.job_machines.proofs.planned_sites.works_stay_planned.Goals as goal

pub returns : goal.returns
returns c = works_stay
