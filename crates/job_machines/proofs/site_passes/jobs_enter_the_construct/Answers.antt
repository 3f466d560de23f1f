use Rattle.job_machines.proofs.PassedJobs.{jobs_enter_the_construct}
use Rattle.job_machines.proofs.site_passes.jobs_enter_the_construct.Goals as goal

pub returns : goal.returns
returns c = jobs_enter_the_construct
