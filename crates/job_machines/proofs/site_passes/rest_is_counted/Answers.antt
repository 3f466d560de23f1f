use Rattle.job_machines.proofs.Counts.{rest_is_counted}
use Rattle.job_machines.proofs.site_passes.rest_is_counted.Goals as goal

pub returns : goal.returns
returns c = rest_is_counted
