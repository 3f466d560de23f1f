use Rattle.job_machines.proofs.NumberLemmas.{jobs_have_all}
use Rattle.job_machines.proofs.planned_sites.jobs_have_the_sites_inside.Goals as goal

pub returns : goal.returns
returns c = jobs_have_all
