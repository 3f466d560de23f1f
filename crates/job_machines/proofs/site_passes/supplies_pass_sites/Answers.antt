use Rattle.job_machines.proofs.Goes.{supplies_pass_sites}
use Rattle.job_machines.proofs.site_passes.supplies_pass_sites.Goals as goal

pub returns : goal.returns
returns c = supplies_pass_sites
