use Rattle.job_machines.proofs.Goes.{steps_pass_sites}
use Rattle.job_machines.proofs.site_passes.steps_pass_sites.Goals as goal

pub returns : goal.returns
returns c = steps_pass_sites
