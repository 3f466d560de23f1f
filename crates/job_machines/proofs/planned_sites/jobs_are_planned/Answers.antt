use Rattle.job_machines.proofs.JobLemmas.{jobs_planned}
use Rattle.job_machines.proofs.planned_sites.jobs_are_planned.Goals as goal

pub returns : goal.returns
returns c = jobs_planned
