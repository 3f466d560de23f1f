use Rattle.job_machines.proofs.JobLemmas.{jobs_above}
use Rattle.job_machines.proofs.planned_sites.jobs_are_numbered_above.Goals as goal

pub returns : goal.returns
returns c = jobs_above
